pub mod Build
pub mod Builders
pub mod Truth
pub mod Conditions
pub mod Preparing
pub mod Several
