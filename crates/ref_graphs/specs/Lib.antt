pub mod Circles
pub mod Reaching
pub mod Closing
pub mod Rounds
pub mod Using
pub mod Views
pub mod Rows
pub mod inner
