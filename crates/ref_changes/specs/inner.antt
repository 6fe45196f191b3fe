-- What no public clause cites.
pub mod Tables
pub mod Firsts
