pub mod Loss
pub mod Pieces
pub mod Frames
pub mod Sizes
pub mod Least
pub mod Bound
