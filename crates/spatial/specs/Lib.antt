pub mod Placements
pub mod Links
