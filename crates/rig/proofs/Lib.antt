pub mod Asked
pub mod Given
pub mod Held
pub mod Outward
pub mod Inward
pub mod Listed
pub mod Climb
pub mod Composite
