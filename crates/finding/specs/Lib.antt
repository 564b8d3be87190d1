pub mod VectorU
pub mod Finder
pub mod Locator
pub mod InRuns
