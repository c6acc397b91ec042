use Rattle.std.proofs.Common.{◌≡◌, ◌<◌, ℕ}
use Rattle.monoid_table.specs.Grids.{entry}
use Rattle.own_quotients.proofs.associating.not_associating_with.Given as goal

abbrev pub invariant-loop-z : goal.invariant-loop-z
invariant-loop-z g l =
    (k : ℕ) → k < l.z
    → entry l.table.order l.table.rows (entry l.table.order l.table.rows l.x l.y) k
    ≡ entry l.table.order l.table.rows l.x (entry l.table.order l.table.rows l.y k)
