pub mod NameLemmas
pub mod OnwardLemmas
pub mod GrowthLemmas
pub mod SetLemmas
pub mod LodgeLemmas
pub mod ReadLemmas
pub mod AnswerLemmas
