pub mod Versions
pub mod Fields
pub mod Readings
pub mod Below
pub mod References
pub mod Views
pub mod inner
