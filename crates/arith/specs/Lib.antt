pub mod Sum
pub mod Within
pub mod Limits
pub mod Fractions
pub mod Division
pub mod Gcd
pub mod Mixed
pub mod Signs
