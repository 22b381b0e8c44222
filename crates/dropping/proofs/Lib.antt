pub mod Kept
pub mod Sums
pub mod Drops
pub mod Boundless
pub mod Needed
pub mod Thinned
pub mod Dropped
