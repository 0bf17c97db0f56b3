pub mod Turns
pub mod Sparse
