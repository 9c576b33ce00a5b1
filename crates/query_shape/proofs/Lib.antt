pub mod NumberingLemmas
pub mod MatchLemmas
pub mod MatchList
pub mod LiftLemmas
