pub mod ExtendingRules
