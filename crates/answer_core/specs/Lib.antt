pub mod Keys
pub mod AnswerLaws
pub mod Binding
pub mod Found
pub mod Ranks
