pub mod Further
pub mod Survey
pub mod Surveyed
