pub mod Held
pub mod Given
pub mod Entries
pub mod Modules
pub mod Recursions
pub mod Tables
pub mod Laws
