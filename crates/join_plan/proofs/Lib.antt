pub mod ChoiceLemmas
pub mod PlanLemmas
pub mod LawLemmas
pub mod SmallPlans
