pub mod Answers
pub mod Lines
pub mod Stops
pub mod Tables
pub mod Tasks
