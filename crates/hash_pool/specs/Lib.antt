pub mod Names
pub mod Growth
pub mod Lodging
pub mod Faults
pub mod Answers
pub mod Reading
pub mod Bodies
