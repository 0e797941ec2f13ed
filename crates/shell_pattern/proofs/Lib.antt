pub mod ClassFacts
pub mod ElementFacts
pub mod EndFacts
pub mod GlobFacts
pub mod SearchFacts
