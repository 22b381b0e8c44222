pub mod Directions
pub mod Rays
