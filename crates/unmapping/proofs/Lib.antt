pub mod Signs
pub mod TablesOnce
pub mod ExactlyOnce
pub mod CellsBack
pub mod Units
pub mod Exact
