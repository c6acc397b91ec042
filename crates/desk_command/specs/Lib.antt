pub mod Calls
pub mod Ends
pub mod Lines
pub mod Scripts
pub mod Stops
