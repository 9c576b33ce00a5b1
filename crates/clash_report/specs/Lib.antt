pub mod After
pub mod Report
