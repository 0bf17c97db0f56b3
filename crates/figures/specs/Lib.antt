pub mod Arm
pub mod Rigs
pub mod Known
