use Rattle.pair_closure.specs.Calls.{ended}
use Rattle.pair_closure.proofs.Calls.{SoFar}
use Rattle.pair_closure.proofs.closure.Closure.take_turns.Given as goal

abbrev pub invariant-loop-unit : goal.invariant-loop-unit
invariant-loop-unit g l = SoFar ended l.initial.self l._unit l.self
