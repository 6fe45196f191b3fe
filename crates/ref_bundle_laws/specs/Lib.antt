pub mod Rows
pub mod Merges
pub mod Kept
pub mod KeptRows
