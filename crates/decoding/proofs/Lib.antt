pub mod Ranking
pub mod Margins
pub mod Reading
pub mod Starts
pub mod Written
pub mod Answering
pub mod Outcomes
