pub mod Form
pub mod Only
pub mod Shown
