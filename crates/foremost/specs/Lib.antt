pub mod Tied
pub mod Order
