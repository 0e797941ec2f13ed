pub mod CaseLemmas
pub mod NewLemmas
pub mod StateLemmas
pub mod JoinLemmas
pub mod LawLemmas
pub mod PullLemmas
pub mod LawfulLemmas
