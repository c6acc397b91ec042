use Rattle.std.proofs.Common.{◌≢◌, ◌<◌, ℕ}
use Rattle.monoid_table.specs.Grids.{times_in}
use Rattle.descriptions.proofs.invariants.divides.Given as goal

abbrev pub invariant-loop-z : goal.invariant-loop-z
invariant-loop-z l = (k : ℕ) → k < l.z → times_in l.table l.y k ≢ l.x
