pub mod Nearness
pub mod Outcomes
pub mod Starts
