pub mod Restored
pub mod Sent
pub mod Reaching
