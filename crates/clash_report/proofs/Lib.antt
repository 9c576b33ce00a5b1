pub mod OrderLemmas
pub mod AfterLemmas
pub mod ReportLemmas
