mod Joined
mod Separated
mod Shortest
mod Won
pub mod Answered
