pub mod Family
pub mod Step
pub mod Causes
pub mod Removal
pub mod Answers
