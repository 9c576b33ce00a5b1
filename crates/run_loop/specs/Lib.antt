pub mod Printing
pub mod Serving
pub mod Taking
pub mod Run
pub mod Laws
