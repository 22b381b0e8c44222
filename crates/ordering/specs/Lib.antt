pub mod Order
pub mod Ranking
