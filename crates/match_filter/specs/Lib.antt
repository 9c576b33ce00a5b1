pub mod Links
pub mod Joining
