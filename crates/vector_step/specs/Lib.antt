pub mod Numbers
pub mod Printed
pub mod Shown
