pub mod Tying
pub mod Ahead
pub mod Search
pub mod Steps
pub mod Searched
