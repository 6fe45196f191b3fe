pub mod Layered
pub mod Resolving
pub mod Locations
pub mod inner
