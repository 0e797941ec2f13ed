pub mod Expressions
pub mod Builds
pub mod Fields
pub mod Preparing
