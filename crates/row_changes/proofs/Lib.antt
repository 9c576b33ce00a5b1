pub mod Members
pub mod DifferenceLemmas
pub mod NumberLemmas
