pub mod SortedLemmas
pub mod Unions
pub mod Beside
pub mod Removal
pub mod Keys
mod Triples
pub mod Gathers
mod Passed
pub mod Pushes
