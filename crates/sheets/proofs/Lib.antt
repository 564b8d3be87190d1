mod Cleared
pub mod Texts
