mod Texts
pub mod OnLiterals
