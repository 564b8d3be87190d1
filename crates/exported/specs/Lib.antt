pub mod Left
pub mod Decoded
pub mod Restored
