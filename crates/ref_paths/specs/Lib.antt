pub mod Alike
pub mod inner
pub mod Path
pub mod Rows
pub mod Segment
