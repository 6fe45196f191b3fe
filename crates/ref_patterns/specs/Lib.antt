pub mod Choices
pub mod Ignoring
pub mod Patterns
pub mod inner
