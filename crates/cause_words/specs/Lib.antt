pub mod Table
pub mod Words
pub mod Rows
pub mod NoSheet
