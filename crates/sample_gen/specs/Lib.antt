pub mod SampleScript
pub mod SampleLaws
