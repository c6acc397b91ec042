pub mod Isomorphism
pub mod Profiles
pub mod Maps
pub mod Images
pub mod Comparisons
