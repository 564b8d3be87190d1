pub mod Cut
pub mod Laid
pub mod Heads
pub mod Framed
pub mod Zeros
