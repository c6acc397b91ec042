use Rattle.std.proofs.Common.{◌≡◌, ◌<◌, ℕ}
use Rattle.std.specs.Prelude.{slice_index}
use Rattle.misere_theory.specs.Certificates.{times_of}
use Rattle.monoid_table.specs.Grids.{entry}
use Rattle.own_quotients.proofs.carrying.products_agree.Given as goal

abbrev pub invariant-loop-x : goal.invariant-loop-x
invariant-loop-x g l =
    (j k : ℕ) → j < l.x → k < l.table.order
    → slice_index l.numbers (entry l.table.order l.table.rows j k)
    ≡ times_of l.cert (slice_index l.numbers j) (slice_index l.numbers k)
