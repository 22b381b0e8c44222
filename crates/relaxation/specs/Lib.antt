pub mod Lent
pub mod Demands
