pub mod Refusals
pub mod Needs
pub mod Records
pub mod Setters
pub mod Promises
pub mod Senses
