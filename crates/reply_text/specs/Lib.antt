pub mod Words
pub mod Refusals
pub mod Replies
pub mod Mirrors
pub mod Snapshots
pub mod DryRuns
pub mod Publications
