pub mod Letters
pub mod Left
pub mod Lines
pub mod Numbers
pub mod Put
pub mod Refused
