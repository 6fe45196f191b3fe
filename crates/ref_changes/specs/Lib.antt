pub mod Moves
pub mod Answers
pub mod Sites
pub mod Changes
pub mod Rows
pub mod Kept
pub mod Views
pub mod inner
