pub mod Components
pub mod Levels
pub mod Views
