pub mod Chains
pub mod Turns
pub mod ClosureViews
pub mod Positions
pub mod Keeping
pub mod Calls
pub mod OverSets
