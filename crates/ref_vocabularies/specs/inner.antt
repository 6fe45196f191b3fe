-- What is here need not be believed: no clause of a call reaches it. These definitions say how a set is kept, and what
-- private functions return.
pub mod Kept
pub mod Alike
pub mod Adding
pub mod Shown
