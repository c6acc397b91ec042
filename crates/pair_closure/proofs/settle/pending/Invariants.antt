use Rattle.std.proofs.Common.{◌≤◌, ◌-◌, length}
use Rattle.pair_closure.specs.Turns.{NoneBefore}
use Rattle.pair_closure.proofs.settle.pending.Given as goal

abbrev pub invariant-loop-at : goal.invariant-loop-at
invariant-loop-at g l = (l.at ≤ length l.held) × NoneBefore l.held l.generators l.at

abbrev pub decreases-loop-at : goal.decreases-loop-at
decreases-loop-at g l = length l.held - l.at
