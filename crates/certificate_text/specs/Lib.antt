pub mod Spelling
pub mod Lines
pub mod Reading
