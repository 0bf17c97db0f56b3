pub mod CommRing
pub mod Parts
pub mod Whole
pub mod RingMap
pub mod Laws
