pub mod Keys
pub mod Ranges
pub mod Runs
pub mod Leaps
pub mod Foremost
