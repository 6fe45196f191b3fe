pub mod Text
pub mod Outcome
