pub mod QueryText
pub mod QueryReading
pub mod QueryLimits
pub mod QueryFault
