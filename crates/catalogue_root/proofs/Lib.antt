pub mod FitLemmas
pub mod CommitLemmas
pub mod ReadyLemmas
pub mod SaveLemmas
pub mod SettleLemmas
pub mod OpenLemmas
pub mod GrowLemmas
pub mod LoadLemmas
