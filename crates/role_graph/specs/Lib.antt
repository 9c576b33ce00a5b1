pub mod Behind
pub mod Order
pub mod FirstClashes
pub mod Graph
pub mod Levels
pub mod Reached
