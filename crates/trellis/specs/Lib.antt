pub mod Cells
pub mod Paths
pub mod Trellis
