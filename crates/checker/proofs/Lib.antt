pub mod Fit
pub mod ContextLemmas
pub mod ElementLemmas
pub mod LoopTurns
pub mod PairTurns
pub mod HeapTurns
pub mod ElementTurns
pub mod ReadTurns
pub mod ComeLemmas
pub mod LawStages
pub mod HeapStages
pub mod CloseStages
pub mod StageLemmas
pub mod DueLemmas
pub mod AdvanceLemmas
pub mod HeldLemmas
mod BoundedLemmas
