pub mod Ranging
pub mod Searching
