pub mod Uses
pub mod Validating
pub mod Bundling
pub mod inner
