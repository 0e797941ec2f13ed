pub mod Case
pub mod Names
pub mod Queries
pub mod Refuses
pub mod Steps
pub mod Answers
pub mod Lawful
