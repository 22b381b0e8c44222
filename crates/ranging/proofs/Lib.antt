pub mod Ranging
pub mod Lowering
pub mod Worth
