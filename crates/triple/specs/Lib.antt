pub mod Ops
pub mod Triples
