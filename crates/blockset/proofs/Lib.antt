pub mod Marched
pub mod Sets
pub mod Mixed
