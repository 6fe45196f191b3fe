pub mod Names
pub mod Overrides
