pub mod FamilyLemmas
pub mod AskingLemmas
pub mod ArrivalLemmas
pub mod ArchiveLemmas
pub mod CaseLemmas
pub mod LawLemmas
pub mod StepLaws
