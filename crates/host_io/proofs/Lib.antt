pub mod Moments
pub mod Settled
pub mod Replayed
pub mod Stepped
pub mod Stopped
pub mod LawLemmas
