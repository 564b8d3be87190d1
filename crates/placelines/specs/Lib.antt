pub mod Read
pub mod Printed
