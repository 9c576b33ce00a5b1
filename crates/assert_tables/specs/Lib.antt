pub mod Rows
pub mod Mentions
pub mod Naming
pub mod Gathered
pub mod Listing
