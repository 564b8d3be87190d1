pub mod Judged
pub mod Next
pub mod Accepted
pub mod Refused
