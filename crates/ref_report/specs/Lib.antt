pub mod Request
pub mod Worlds
pub mod Report
pub mod Status
pub mod Run
pub mod inner
