pub mod Ranges
pub mod Meaning
pub mod Table
pub mod Items
pub mod Demands
pub mod Verdicts
