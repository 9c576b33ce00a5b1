pub mod Plans
pub mod Choice
pub mod PlanLaws
