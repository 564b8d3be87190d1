pub mod EachLine
pub mod Going
