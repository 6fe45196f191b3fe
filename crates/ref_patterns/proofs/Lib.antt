pub mod Choosing
pub mod Ends
pub mod Read
pub mod Said
