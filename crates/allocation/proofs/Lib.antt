pub mod Steps
pub mod Sums
pub mod Lists
pub mod Turns
pub mod Even
pub mod Owned
pub mod Outcomes
pub mod Unique
