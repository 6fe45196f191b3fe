-- What is here need not be believed: no clause of a call reaches it. These definitions say what private functions return.
pub mod View
pub mod Faults
pub mod Floats
pub mod Lines
