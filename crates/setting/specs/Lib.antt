pub mod Box
pub mod Ready
