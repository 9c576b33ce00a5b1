pub mod RowOrder
pub mod MentionLemmas
pub mod CountLemmas
pub mod SearchLemmas
pub mod LeftLemmas
pub mod NamingLemmas
pub mod GatheredLemmas
pub mod ListedRows
