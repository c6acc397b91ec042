pub mod Least
pub mod Soonest
