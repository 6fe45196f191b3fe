pub mod Listed
pub mod Levels
pub mod View
