pub mod Folders
pub mod Marks
pub mod Turns
