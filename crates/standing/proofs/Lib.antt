pub mod Removed
pub mod Rows
pub mod Effects
pub mod Afresh
