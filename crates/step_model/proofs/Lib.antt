pub mod RefusalLemmas
pub mod PatternLemmas
pub mod QueryLemmas
pub mod StepLemmas
pub mod FaultLemmas
pub mod AskingLemmas
pub mod OwnLemmas
