pub mod OrderLemmas
pub mod RefLemmas
pub mod AddsLemmas
pub mod RoomLemmas
pub mod LookupLemmas
pub mod EntryLemmas
pub mod SmallBases
