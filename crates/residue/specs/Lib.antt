pub mod Residues
