pub mod Tallying
pub mod Gathering
pub mod TallyLaws
