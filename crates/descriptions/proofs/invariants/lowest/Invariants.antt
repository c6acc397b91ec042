use Rattle.std.proofs.Common.{◌<◌, ℕ}
use Rattle.descriptions.specs.Invariants.{Divides}
use Rattle.descriptions.proofs.invariants.lowest.Given as goal

abbrev pub invariant-loop-x : goal.invariant-loop-x
invariant-loop-x l = record {
  within : l.all < l.table.order;
  each : (y : ℕ) → y < l.x → Divides l.table y l.all;
}
