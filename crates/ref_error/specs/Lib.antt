pub mod Errors
pub mod Retrieving
pub mod Rows
pub mod inner
