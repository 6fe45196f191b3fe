pub mod Further
pub mod Rows
pub mod Views
pub mod inner
