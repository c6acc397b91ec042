use Rattle.std.proofs.Common.{◌≡◌, ◌<◌, ℕ}
use Rattle.std.specs.Prelude.{slice_index}
use Rattle.misere_theory.specs.Certificates.{times_of}
use Rattle.monoid_table.specs.Grids.{entry}
use Rattle.own_quotients.proofs.carrying.row_agrees.Given as goal

abbrev pub invariant-loop-y : goal.invariant-loop-y
invariant-loop-y g l =
    (k : ℕ) → k < l.y → slice_index l.numbers (entry l.table.order l.table.rows l.x k)
    ≡ times_of l.cert (slice_index l.numbers l.x) (slice_index l.numbers k)
