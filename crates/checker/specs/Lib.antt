pub mod Parts
pub mod Closes
pub mod Separates
pub mod Stages
pub mod JobViews
pub mod Jobs
