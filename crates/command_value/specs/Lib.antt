pub mod Plain
pub mod Settings
