pub mod Digits
pub mod Parts
pub mod Printable
pub mod Texts
