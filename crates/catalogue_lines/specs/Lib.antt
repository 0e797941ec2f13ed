pub mod Lines
pub mod Pieces
pub mod SetLines
pub mod PartForms
pub mod NameLines
pub mod KnownForms
pub mod Reading
