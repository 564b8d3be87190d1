pub mod Places
pub mod Finder
pub mod FinderPX
pub mod Sheets
pub mod Lookup
pub mod LookupFrame
pub mod OneByOne
