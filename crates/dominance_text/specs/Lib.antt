pub mod Said
pub mod Labels
pub mod Spelling
pub mod Reading
