pub mod Lists
pub mod Growing
pub mod Members
pub mod Found
pub mod Roots
pub mod Closing
pub mod Following
pub mod Ring
