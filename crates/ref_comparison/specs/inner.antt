-- What no public clause cites.
pub mod Firsts
pub mod Grouped
pub mod Pairs
