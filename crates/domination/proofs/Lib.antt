pub mod Tests
pub mod Trades
pub mod Minimal
pub mod Sizes
pub mod Eligible
pub mod Entry
pub mod Rows
pub mod Discards
