pub mod Texts
pub mod Saying
pub mod Lasts
