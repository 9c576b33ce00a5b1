pub mod Sessions
pub mod Base
pub mod Doing
pub mod Opening
pub mod Committing
pub mod Blocks
