pub mod Lattice
pub mod Building
