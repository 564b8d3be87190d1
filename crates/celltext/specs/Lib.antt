pub mod Lines
pub mod Found
pub mod Nearest
pub mod Restored
