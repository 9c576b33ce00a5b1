pub mod RequestLemmas
pub mod ScriptLemmas
pub mod ByteLemmas
pub mod LineSaid
pub mod TakenLemmas
pub mod RunLemmas
pub mod OpenLemmas
