pub mod Symmetrics
