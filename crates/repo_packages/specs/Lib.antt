pub mod PackageReplies
pub mod PackageCases
pub use Rattle.package_intake.specs.Arrival
pub use Rattle.package_intake.specs.Answers
pub use Rattle.package_intake.specs.Fits
pub use Rattle.package_intake.specs.Steps
