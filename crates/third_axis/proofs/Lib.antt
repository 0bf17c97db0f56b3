pub mod Quote
pub mod Vectors
pub mod Blocks
