pub mod Needed
pub mod Embedding
pub mod Bundle
pub mod Parts
pub mod Saying
pub mod Assembled
pub mod inner
