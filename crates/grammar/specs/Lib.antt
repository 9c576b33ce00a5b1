pub mod Bytes
pub mod Grammar
pub mod Blanks
pub mod Reading
pub mod Numbers
