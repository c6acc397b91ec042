pub mod Evidence
pub mod Periods
