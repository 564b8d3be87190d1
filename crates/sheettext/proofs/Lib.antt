mod Heads
mod Owned
