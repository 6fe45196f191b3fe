pub mod Bundling
pub mod Paths
pub mod Validating
