pub mod Fill
pub mod Sized
pub mod Ordered
pub mod Amounts
