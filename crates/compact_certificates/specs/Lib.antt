pub mod Separators
pub mod Rows
pub mod Compact
pub mod Flat
pub mod Lanes
