pub mod FirstCells
pub mod Rows
