pub mod Searches
pub mod Solved
pub mod Many
pub mod Series
pub mod Asked
pub mod Found
pub mod Presentations
pub mod Certifies
