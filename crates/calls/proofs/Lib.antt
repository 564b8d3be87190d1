pub mod Admitted
mod StartCases
