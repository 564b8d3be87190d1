mod Sequence
pub mod Values
pub mod Worked
pub mod Ideal
pub mod Apart
pub mod Sendable
