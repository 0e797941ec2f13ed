pub mod CaseLemmas
pub mod NameLemmas
pub mod OwnLemmas
pub mod NameLaws
pub mod LawfulLemmas
