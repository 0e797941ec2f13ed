pub mod Pieces
pub mod Reading
pub mod Groups
pub mod Faults
pub mod Places
pub mod Field
