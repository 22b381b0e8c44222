pub mod Folding
pub mod Asked
