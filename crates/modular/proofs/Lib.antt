pub mod Coefficients
pub mod Primes
pub mod Signs
