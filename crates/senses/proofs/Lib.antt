pub mod Known
pub mod Both
