pub mod Values
pub mod Outcomes
pub mod Scales
pub mod Ended
pub mod Demands
pub mod Cells
