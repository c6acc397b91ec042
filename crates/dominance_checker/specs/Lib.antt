pub mod Ranks
pub mod Sides
pub mod States
pub mod Passed
pub mod Elements
