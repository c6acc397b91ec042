pub mod Solved
pub mod Orders
