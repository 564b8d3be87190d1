pub mod Allocation
pub mod Promises
pub mod Owners
