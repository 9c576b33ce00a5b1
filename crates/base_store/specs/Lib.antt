pub mod History
pub mod Legal
pub mod Area
pub mod Laws
pub mod Store
pub mod KeepFault
pub mod Loaded
pub mod Loading
