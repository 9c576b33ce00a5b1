pub mod VariableRules
pub mod LimitRules
pub mod QueryRules
pub mod TermCounts
