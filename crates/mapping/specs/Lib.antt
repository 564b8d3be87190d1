pub mod Vector
pub mod Readable
