pub mod Rows
pub mod VectorCases
