pub mod Fifteen
pub mod Cubes
