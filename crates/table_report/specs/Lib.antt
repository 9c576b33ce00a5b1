pub mod TableLines
pub mod Gathered
pub mod Laws
