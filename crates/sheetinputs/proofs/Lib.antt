pub mod Older
mod Empty
