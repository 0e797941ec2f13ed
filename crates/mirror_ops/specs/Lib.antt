pub mod Settings
pub mod Cases
pub mod Updates
