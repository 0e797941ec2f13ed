pub mod JoinLemmas
pub mod CaseLemmas
pub mod OwnLemmas
pub mod ReadLemmas
pub mod ListingLemmas
pub mod PairLemmas
pub mod ImportLemmas
pub mod PackageLaws
