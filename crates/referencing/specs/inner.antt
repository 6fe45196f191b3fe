-- What no public clause cites: definitions that the contracts of private functions speak of.
pub mod Steps
pub mod Parents
