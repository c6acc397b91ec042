pub mod Faults
pub mod Settled
pub mod Searching
pub mod Known
pub mod Reached
