pub mod Bits
pub mod Scan
pub mod Steps
pub mod Corner
