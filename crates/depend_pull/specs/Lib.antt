pub mod Seeds
pub mod SeedOrder
pub mod Places
pub mod Pull
