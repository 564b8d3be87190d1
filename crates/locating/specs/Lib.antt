pub mod Writing
pub mod Locator
pub mod LocatorPX
pub mod BothWays
pub mod Sheets
pub mod Points
