mod GrowLemmas
mod Lawful
mod RunLemmas
mod ListLemmas
mod CallLemmas
mod DecideLemmas
mod CauseLemmas
