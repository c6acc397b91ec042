pub mod Listed
pub mod Solves
pub mod Sizes
