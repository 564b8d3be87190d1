pub mod Waiting
pub mod Same
