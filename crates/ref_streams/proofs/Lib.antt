pub mod ReadsAgain
mod Writing
pub mod Cutting
pub mod Getting
pub mod Serving
pub mod OnLiterals
