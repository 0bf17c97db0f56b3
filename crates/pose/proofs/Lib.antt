pub mod Axis
pub mod Found
pub mod Turns
