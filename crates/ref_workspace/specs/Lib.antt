pub mod Open
pub mod Referring
pub mod Workspace
