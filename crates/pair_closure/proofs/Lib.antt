pub mod Lists
pub mod PairLaws
pub mod ChainLaws
pub mod WhichTurn
pub mod Invariant
pub mod EachTurn
pub mod FromStart
pub mod Theorem
pub mod Bound
pub mod Running
pub mod Machine
pub mod Calls
pub mod Runs
pub mod PendingLaws
pub mod Turned
pub mod Positions
pub mod Words
mod Keeping
mod Taken
mod Rising
pub mod OptionLaws
pub mod Fit
mod Kept
