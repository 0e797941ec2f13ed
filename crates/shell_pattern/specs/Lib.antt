pub mod Glob
pub mod GlobReading
pub mod GlobViews
pub mod GlobSearch
