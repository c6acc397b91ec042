pub mod OverSets
pub mod Pairs
pub mod Heaps
pub mod Work
pub mod Trials
pub mod PairLaws
