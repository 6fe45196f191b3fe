pub mod Worlds
pub mod inner
