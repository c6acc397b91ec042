pub mod Positions
pub mod Moves
pub mod Outcomes
pub mod Hashes
pub mod Text
pub mod Surveys
