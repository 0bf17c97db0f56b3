pub mod Poses
