pub mod Saying
pub mod Numbering
pub mod Retrieved
