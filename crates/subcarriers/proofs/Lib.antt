pub mod Mapped
pub mod BySlots
