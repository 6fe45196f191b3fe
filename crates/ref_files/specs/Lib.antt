pub mod Meant
pub mod Plain
pub mod Texts
pub mod Uris
pub mod Excluded
pub mod Maps
pub mod Failed
