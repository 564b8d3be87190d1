pub mod Shown
pub mod Explained
pub mod Sheets
pub mod Points
