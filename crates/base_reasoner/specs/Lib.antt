pub mod Reasoned
pub mod Questions
pub mod Renewal
