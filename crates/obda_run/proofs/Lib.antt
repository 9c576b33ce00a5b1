pub mod StatusLemmas
pub mod SampleLemmas
