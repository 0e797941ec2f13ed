pub mod CutLaws
pub mod CutSteps
pub mod Epochs
pub mod Numbers
pub mod OrderLaws
pub mod Spelled
pub mod VersionBytes
