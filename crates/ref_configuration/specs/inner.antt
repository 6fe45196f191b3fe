pub mod Answers
pub mod Beginnings
