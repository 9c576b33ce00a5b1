pub mod BookLemmas
pub mod RisingLemmas
