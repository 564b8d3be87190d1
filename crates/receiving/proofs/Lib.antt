mod Leaves
mod Returned
