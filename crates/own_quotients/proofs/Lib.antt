pub mod Judged
pub mod ReachedLaws
pub mod TextLaws
mod Heaps
