pub mod Amounts
pub mod Check
