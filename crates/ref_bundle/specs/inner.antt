-- What no public clause cites.
pub mod Reach
pub mod Seen
pub mod Tables
pub mod First
pub mod Obstacles
pub mod Among
pub mod Members
