pub mod Inputs
pub mod Ends
