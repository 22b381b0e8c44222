pub mod Draws
pub mod Sections
pub mod Drawn
