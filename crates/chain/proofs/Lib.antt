mod Extends
mod Mains
mod Parts
