pub mod Figures
pub mod Tables
pub mod Prepared
pub mod Narrowing
pub mod Pairs
