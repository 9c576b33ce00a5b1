pub mod Document
pub mod Facts
pub mod Sound
pub mod Drafting
pub mod Run
pub mod DocumentLaws
