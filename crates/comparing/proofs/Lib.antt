pub mod Euclid
pub mod Order
