pub mod Lists
pub mod Few
pub mod Places
pub mod Seen
pub mod Gone
pub mod Ended
pub mod Emptied
pub mod Filled
pub mod Free
pub mod Steps
pub mod RunLaws
mod Reached
pub mod Cuts
pub mod Lines
pub mod ReadLines
