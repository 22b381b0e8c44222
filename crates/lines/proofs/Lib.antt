pub mod Places
pub mod Faults
pub mod Blocks
pub mod Numerals
pub mod Shapes
pub mod Standing
pub mod Rereading
