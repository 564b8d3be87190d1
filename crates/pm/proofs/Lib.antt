pub mod Cells
pub mod RowLaws
pub mod BackLaws
