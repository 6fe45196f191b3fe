-- What is here need not be believed: it says what structs stand for.
pub mod Seen
pub mod Replies
pub mod Mended
pub mod Openings
pub mod Steps
pub mod Giving
pub mod Referred
pub mod Faulty
pub mod Placing
pub mod Sides
