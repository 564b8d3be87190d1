pub mod Spelling
pub mod Stored
pub mod Ends
mod Plain
pub mod Walk
pub mod Left
