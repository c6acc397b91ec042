pub mod Claims
pub mod Presents
pub mod Folds
pub mod Led
pub mod Numbered
