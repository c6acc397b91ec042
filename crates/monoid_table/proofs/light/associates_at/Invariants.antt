use Rattle.std.proofs.Common.{◌≡◌, ℕ, ◌<◌, ◌≤◌}
use Rattle.monoid_table.specs.Grids.{entry}
use Rattle.monoid_table.proofs.light.associates_at.Given as goal

abbrev pub invariant-loop-x : goal.invariant-loop-x
invariant-loop-x l = (k z : ℕ) → k < l.x → k ≤ z → z < l.order
    → entry l.order l.rows (entry l.order l.rows k l.y) z
    ≡ entry l.order l.rows k (entry l.order l.rows l.y z)
