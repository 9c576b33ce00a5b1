pub mod ReplyText
pub mod ReplyLaws
pub mod Extending
