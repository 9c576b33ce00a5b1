pub mod ByWord
pub mod ItemRules
pub mod SideRules
pub mod FormRules
pub mod NamesRules
pub mod MeaningRules
pub mod BlockRules
pub mod BlockOnce
