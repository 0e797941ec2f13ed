pub mod Tree
pub mod Pieces
pub mod Words
pub mod Grammar
pub mod Written
pub mod TreeCode
