pub mod Back
pub mod Exact
