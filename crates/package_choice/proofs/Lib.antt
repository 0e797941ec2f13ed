mod ArchLemmas
pub mod ChoiceLemmas
pub mod ListLemmas
