pub mod Cells
pub mod Cases
pub mod Turned
pub mod Said
pub mod OlderPx
pub mod Again
pub mod AgainSecond
pub mod InRuns
