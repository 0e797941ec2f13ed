pub mod Cuts
pub mod VersionText
pub mod VersionOrder
pub mod Spelling
