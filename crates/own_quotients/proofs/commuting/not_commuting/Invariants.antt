use Rattle.std.proofs.Common.{◌≡◌, ◌<◌, ℕ}
use Rattle.monoid_table.specs.Grids.{entry}
use Rattle.own_quotients.proofs.commuting.not_commuting.Given as goal

abbrev pub invariant-loop-x : goal.invariant-loop-x
invariant-loop-x g l =
    (j k : ℕ) → j < l.x → k < l.table.order
    → entry l.table.order l.table.rows j k ≡ entry l.table.order l.table.rows k j
