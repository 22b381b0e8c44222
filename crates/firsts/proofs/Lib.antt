pub mod Order
pub mod Places
pub mod Shown
pub mod Worth
pub mod Uncut
pub mod Leading
pub mod Cells
pub mod Known
