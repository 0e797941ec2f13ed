pub mod WordLemmas
pub mod NameLemmas
pub mod ListingLemmas
pub mod ReleaseLemmas
