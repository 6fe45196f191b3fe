pub mod Vocabularies
pub mod Views
pub mod Dialects
pub mod inner
