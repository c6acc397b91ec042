use Rattle.std.proofs.Common.{◌≡◌, ◌<◌, ℕ, false}
use Rattle.std.specs.Prelude.{slice_index_or}
use Rattle.monoid_table.specs.Grids.{entry}
use Rattle.own_quotients.proofs.likeness.are_taken_apart.Given as goal

abbrev pub invariant-loop-z : goal.invariant-loop-z
invariant-loop-z g l =
    (k : ℕ) → k < l.z
    → slice_index_or l.marks (entry l.table.order l.table.rows l.x k) false
    ≡ slice_index_or l.marks (entry l.table.order l.table.rows l.y k) false
