pub mod LookupFrame
pub mod Words
