pub mod DualCopies
