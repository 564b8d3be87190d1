pub mod Layout
pub mod Heads
pub mod Inputs
