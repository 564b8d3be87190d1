mod Lines
mod Steps
pub mod All
