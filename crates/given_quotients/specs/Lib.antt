pub mod Told
pub mod Given
pub mod Checks
pub mod Says
