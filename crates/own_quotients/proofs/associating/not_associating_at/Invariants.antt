use Rattle.std.proofs.Common.{◌≡◌, ◌<◌, ℕ}
use Rattle.monoid_table.specs.Grids.{entry}
use Rattle.own_quotients.proofs.associating.not_associating_at.Given as goal

abbrev pub invariant-loop-x : goal.invariant-loop-x
invariant-loop-x g l =
    (j k : ℕ) → j < l.x → k < l.table.order
    → entry l.table.order l.table.rows (entry l.table.order l.table.rows j l.y) k
    ≡ entry l.table.order l.table.rows j (entry l.table.order l.table.rows l.y k)
