pub mod Store
pub mod Loads
pub mod Commits
pub mod Opens
pub mod Laws
