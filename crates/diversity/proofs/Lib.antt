pub mod Delays
mod Moves
mod Seconds
