pub mod Bytes
pub mod Memory
pub mod Errors
pub mod Lines
pub mod Serving
pub mod Rows
pub mod inner
