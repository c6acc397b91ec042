pub mod Numbers
pub mod Queries
pub mod Asked
pub mod Questions
