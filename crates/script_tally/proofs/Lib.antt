pub mod GatherLemmas
pub mod TallyLemmas
