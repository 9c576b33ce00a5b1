pub mod ClosureLemmas
pub mod CountLemmas
pub mod EndLemmas
pub mod QueueLemmas
pub mod RunLemmas
pub mod SeedLemmas
pub mod UsesLemmas
