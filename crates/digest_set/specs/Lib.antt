pub mod Facts
pub mod Difference
