mod Digits
pub mod Exactly
mod Reading
mod Singles
