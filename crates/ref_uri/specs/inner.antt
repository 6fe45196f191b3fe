-- What is here need not be believed: no clause of a call reaches it; its rows alone are in laws and examples. These
-- definitions say what private functions return.
pub mod Class
pub mod Scans
pub mod Lengths
pub mod Written
pub mod Removal
pub mod Target
pub mod Faults
pub mod Rows
