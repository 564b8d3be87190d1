pub mod Questions
pub mod Entries
