pub mod Ranges
pub mod Descent
pub mod Members
pub mod Levels
