pub mod Words
pub mod Cells
pub mod Early
pub mod Blocks
pub mod Residues
