pub mod Second
pub mod Writing
pub mod Finder
pub mod Locator
pub mod InRuns
