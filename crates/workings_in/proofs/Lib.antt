pub mod Sizes
pub mod Cases
pub mod Explained
pub mod Own
pub mod InRuns
