pub mod Frames
pub mod Passing
pub mod Merging
pub mod Passed
