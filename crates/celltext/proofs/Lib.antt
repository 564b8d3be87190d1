mod Hexadecimal
mod Reading
mod Restored
mod Once
