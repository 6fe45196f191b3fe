-- What is here need not be believed: it says what structs stand for.
pub mod Reading
