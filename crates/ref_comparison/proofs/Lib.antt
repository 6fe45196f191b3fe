pub mod Groups
pub mod Telling
