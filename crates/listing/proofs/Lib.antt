pub mod Worked
pub mod Room
pub mod Refusing
