pub mod Digits
pub mod Tables
pub mod Filling
pub mod Lent
pub mod Counts
pub mod Filled
