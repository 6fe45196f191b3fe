pub mod Tokens
pub mod Rebased
pub mod Names
pub mod Changed
pub mod inner
pub mod Checked
