pub mod RelationLemmas
pub mod EntryLemmas
pub mod FaultLemmas
