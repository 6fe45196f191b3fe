-- What no public clause cites.
pub mod Adding
pub mod Firsts
pub mod Spots
