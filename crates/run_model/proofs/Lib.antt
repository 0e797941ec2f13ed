pub mod Indexes
pub mod Joins
pub mod Says
pub mod Opens
pub mod Growing
pub mod Openings
pub mod Whole
