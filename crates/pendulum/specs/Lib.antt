pub mod NewtonEuler
pub mod Equation
