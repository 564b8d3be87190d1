mod Buffers
pub mod Blank
