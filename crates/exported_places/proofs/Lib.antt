pub mod Small
pub mod SmallIn
pub mod Numbers
pub mod SmallWorked
