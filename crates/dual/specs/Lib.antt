pub mod DualNumbers
