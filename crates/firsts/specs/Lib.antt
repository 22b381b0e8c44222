pub mod Order
pub mod Leading
