pub mod Cases
pub mod InRuns
