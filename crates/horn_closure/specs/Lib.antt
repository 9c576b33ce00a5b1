pub mod Closure
pub mod Run
