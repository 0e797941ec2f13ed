pub mod Order
pub mod Sorted
pub mod Lists
pub mod Answers
