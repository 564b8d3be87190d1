mod Said
pub mod Long
