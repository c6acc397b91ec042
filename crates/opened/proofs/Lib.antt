pub mod Form
pub mod Values
pub mod Handles
pub mod InfiniteForm
