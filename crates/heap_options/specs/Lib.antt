pub mod Options
pub mod Walks
pub mod Exact
