pub mod Seen
pub mod Found
mod Heaps
mod Listing
