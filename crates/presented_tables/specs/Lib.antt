pub mod Elements
pub mod Tested
pub mod Beside
pub mod Numbers
pub mod Rows
pub mod Reached
pub mod Faults
pub mod Saying
