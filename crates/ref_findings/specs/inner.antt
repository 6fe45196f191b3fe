-- What no public clause cites.
pub mod Keywords
pub mod Meanings
pub mod Seen
pub mod Queue
pub mod Wanted
pub mod Plain
pub mod Adding
pub mod Nulled
pub mod Read
