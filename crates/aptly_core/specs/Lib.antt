pub mod Status
pub mod Apart
pub mod Machine
pub mod Arrives
pub mod Runs
pub mod Opens
pub mod Calls
pub mod Causes
