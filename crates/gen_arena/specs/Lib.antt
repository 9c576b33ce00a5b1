pub mod Store
pub mod Changes
pub mod Laws
pub mod Examples
pub mod Lends
pub mod Places
