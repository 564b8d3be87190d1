pub mod Fitting
pub mod Lengths
pub mod Reaching
pub mod Unique
pub mod Loops
pub mod Outcomes
pub mod Sent
