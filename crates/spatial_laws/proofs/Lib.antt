pub mod Quote
pub mod Laws
pub mod Maps
pub mod Modules
