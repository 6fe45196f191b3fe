-- What no public clause cites.
pub mod Adding
pub mod Saying
pub mod Closing
pub mod Following
