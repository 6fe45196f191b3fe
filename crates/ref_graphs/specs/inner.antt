-- What no public clause cites.
pub mod Circling
pub mod Rounds
pub mod Searching
pub mod Using
