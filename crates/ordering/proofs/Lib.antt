pub mod Permutations
pub mod Order
pub mod Insertion
pub mod Lists
