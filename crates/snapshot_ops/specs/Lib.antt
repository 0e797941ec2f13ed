pub mod Merges
pub mod Replies
pub mod Cases
pub mod Answers
