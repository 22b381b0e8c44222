pub mod Breaking
pub mod Naming
pub mod Ordering
pub mod Twigs
pub mod Parts
pub mod Exits
pub mod Ends
pub mod Demands
