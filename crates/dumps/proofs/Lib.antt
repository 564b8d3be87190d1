mod Fresh
pub mod Steps
pub mod Taken
pub mod Real
pub mod Small
pub mod Handing
pub mod Stands
pub mod Ends
pub mod Refused
pub mod Accepted
