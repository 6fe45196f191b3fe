-- What is here need not be believed: no clause of a public call reaches it. These definitions say what private
-- functions return.
pub mod Held
pub mod Answering
