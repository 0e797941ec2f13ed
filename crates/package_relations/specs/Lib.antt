pub mod Fields
pub mod Satisfies
pub mod Order
