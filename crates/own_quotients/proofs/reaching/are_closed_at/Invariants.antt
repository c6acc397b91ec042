use Rattle.std.proofs.Common.{◌≡◌, ◌<◌, ℕ, true, false}
use Rattle.std.specs.Prelude.{slice_index, slice_index_or}
use Rattle.monoid_table.specs.Grids.{entry}
use Rattle.own_quotients.proofs.reaching.are_closed_at.Given as goal

abbrev pub invariant-loop-i : goal.invariant-loop-i
invariant-loop-i g l =
    (k : ℕ) → k < l.i
    → slice_index_or l.marks (entry l.table.order l.table.rows l.x (slice_index l.heaps k)) false
    ≡ true
