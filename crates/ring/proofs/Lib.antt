pub mod Copies
pub mod Solve
