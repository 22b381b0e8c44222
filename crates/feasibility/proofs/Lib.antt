pub mod Sizes
pub mod Divisor
pub mod Breaking
pub mod Meaning
pub mod Passing
