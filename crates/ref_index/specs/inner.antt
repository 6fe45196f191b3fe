-- What no public clause cites: definitions that private functions and the invariants of types speak of. A reader who wants
-- to know what this crate promises need not read them.
pub mod Marks
pub mod Found
pub mod Visits
pub mod Queue
pub mod Index
pub mod NormalUris
pub mod Retrieved
