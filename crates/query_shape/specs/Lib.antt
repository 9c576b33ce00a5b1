pub mod Shape
pub mod ShapeFault
pub mod Numbering
pub mod Lifting
pub mod TreeWitness
pub mod ShapeLaws
