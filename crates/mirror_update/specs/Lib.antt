pub mod Fetch
pub mod Wanted
pub mod Indexes
pub mod Filter
pub mod Arrival
pub mod Fits
pub mod Answers
