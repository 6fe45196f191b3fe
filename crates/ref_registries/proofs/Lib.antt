pub mod Faults
pub mod Given
mod Building
