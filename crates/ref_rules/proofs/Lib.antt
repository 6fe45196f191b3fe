pub mod Lists
pub mod Turning
pub mod Growing
pub mod Applied
pub mod Suspects
