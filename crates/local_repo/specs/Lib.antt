pub mod Replies
pub mod Settings
pub mod Cases
pub mod Verbs
pub use Rattle.repo_packages.specs.PackageReplies
pub use Rattle.repo_packages.specs.PackageCases
