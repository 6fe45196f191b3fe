-- What is here need not be believed: it says what a builder holds.
pub mod Holding
