pub mod AxiomGrammar
pub mod AxiomReading
pub mod AxiomMeaning
pub mod AxiomFault
pub mod Vocabulary
pub mod Block
pub mod BlockReading
pub mod BlockLaws
