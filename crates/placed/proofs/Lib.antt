pub mod Amounts
pub mod Firstly
