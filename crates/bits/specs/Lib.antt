pub mod Bits
pub mod Tests
pub mod Once
pub mod Listed
