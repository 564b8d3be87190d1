mod Totals
pub mod Same
pub mod Loop
