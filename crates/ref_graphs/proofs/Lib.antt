pub mod Searching
pub mod Circling
pub mod Returning
pub mod Used
