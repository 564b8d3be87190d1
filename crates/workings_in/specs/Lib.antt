pub mod Shown
pub mod InRuns
