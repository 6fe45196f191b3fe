pub mod Further
pub mod Documents
pub mod OnLiterals
pub mod InYaml
pub mod Texts
pub mod Scopes
