pub mod Below
pub mod Euclid
pub mod Modular
pub mod Least
