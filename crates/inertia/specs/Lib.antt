pub mod Inertias
