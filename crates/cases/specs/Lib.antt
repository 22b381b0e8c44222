pub mod Demands
pub mod Senses
