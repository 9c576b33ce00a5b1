pub mod Entries
pub mod State
pub mod Stops
pub mod Opening
pub mod Front
pub mod Reading
pub mod Fault
pub mod Laws
