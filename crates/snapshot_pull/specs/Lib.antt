pub mod Snapshots
pub mod Replies
pub mod Pulls
