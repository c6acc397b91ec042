use Rattle.std.proofs.Common.{◌≡◌, ◌<◌, ℕ}
use Rattle.monoid_table.specs.Grids.{entry}
use Rattle.own_quotients.proofs.commuting.not_commuting_with.Given as goal

abbrev pub invariant-loop-y : goal.invariant-loop-y
invariant-loop-y g l =
    (k : ℕ) → k < l.y
    → entry l.table.order l.table.rows l.x k ≡ entry l.table.order l.table.rows k l.x
