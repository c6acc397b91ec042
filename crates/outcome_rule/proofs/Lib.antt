pub mod Below
pub mod Moved
pub mod Looked
