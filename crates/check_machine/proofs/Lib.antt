pub mod FittingLaws
pub mod Rows
pub mod TableLaws
pub mod FaultLaws
pub mod KeyLaws
pub mod ProductLaws
pub mod PeriodLaws
pub mod ApartLaws
pub mod RuleLaws
pub mod SpellLaws
pub mod HeapLaws
pub mod UnitLaws
pub mod TurnLaws
pub mod SortLaws
mod AnyLemmas
pub mod CloseTurns
pub mod LawTurns
pub mod CostLaws
mod FallSteps
mod FallEnds
mod FallLoops
mod LeastLemmas
mod FallLemmas
pub mod BoundLaws
mod TrueTests
mod TrueTables
mod TruePhases
mod TrueElements
mod TrueEnds
mod TrueLoops
mod TrueLemmas
