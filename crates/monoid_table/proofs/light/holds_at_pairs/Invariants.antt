use Rattle.std.proofs.Common.{◌≡◌, ℕ, ◌<◌}
use Rattle.monoid_table.specs.Grids.{entry}
use Rattle.monoid_table.proofs.light.holds_at_pairs.Given as goal

abbrev pub invariant-loop-x : goal.invariant-loop-x
invariant-loop-x l = record {
  identity : (k : ℕ) → k < l.x → entry l.order l.rows 0 k ≡ k;
  commutes : (k m : ℕ) → k < l.x → m < k → entry l.order l.rows k m ≡ entry l.order l.rows m k;
}

abbrev pub invariant-loop-y : goal.invariant-loop-y
invariant-loop-y l = (m : ℕ) → m < l.y → entry l.order l.rows l.x m ≡ entry l.order l.rows m l.x
