mod Answered
pub mod Fronts
pub mod Given
mod Lengths
pub mod Says
