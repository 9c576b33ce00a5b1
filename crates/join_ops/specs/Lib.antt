pub mod Conditions
pub mod Joins
pub mod Levels
pub mod Orders
pub mod Planned
pub mod Matching
