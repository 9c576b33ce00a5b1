pub mod Rising
pub mod Witnesses
