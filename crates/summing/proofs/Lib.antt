pub mod Sums
pub mod Buffers
pub mod Controls
pub mod Chained
pub mod Keys
pub mod Added
pub mod Numbers
