pub mod Classes
pub mod Leads
pub mod Powers
pub mod Tables
pub mod Turns
pub mod Separated
pub mod Tested
