pub mod Lists
pub mod Whole
pub mod Lines
pub mod Json
pub mod Described
