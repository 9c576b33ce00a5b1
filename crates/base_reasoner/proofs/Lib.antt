pub mod FoundReplies
