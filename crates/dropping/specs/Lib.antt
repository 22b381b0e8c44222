pub mod Kept
pub mod Dropping
pub mod Gives
