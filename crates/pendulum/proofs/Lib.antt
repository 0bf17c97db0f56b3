pub mod Torque
