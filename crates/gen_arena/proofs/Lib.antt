pub mod ListLemmas
pub mod StoreLemmas
pub mod ArenaLemmas
pub mod LawLemmas
