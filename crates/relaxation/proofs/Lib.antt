pub mod Lent
pub mod Loose
pub mod Demands
mod Placed
