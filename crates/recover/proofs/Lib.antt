mod Channels
pub mod Extended
pub mod Mains
