-- What no public clause cites.
pub mod Documents
