pub mod Eligible
pub mod Trades
pub mod Pairs
pub mod Told
