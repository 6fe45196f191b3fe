-- What is here need not be believed: no clause of a call reaches it; its rows alone are in laws and examples. These
-- definitions say what private functions return.
pub mod WalkSteps
pub mod Added
pub mod Ends
