pub mod Called
pub mod Admitted
pub mod Fits
