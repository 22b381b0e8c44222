pub mod Folding
pub mod Lists
pub mod Sizes
pub mod Choice
pub mod Few
pub mod Built
