pub mod Rows
pub mod Dashes
pub mod Different
pub mod Standing
