pub mod Reading
pub mod Beginnings
pub mod OnLiterals
