pub mod Joints
pub mod Letters
