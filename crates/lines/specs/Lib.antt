pub mod Places
pub mod Blocks
pub mod Faults
pub mod Numbers
pub mod Layout
pub mod Lines
