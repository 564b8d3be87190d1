pub mod Written
pub mod Rooms
