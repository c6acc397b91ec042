use Rattle.std.proofs.Common.{◌≡◌, ◌<◌, ℕ}
use Rattle.std.specs.Prelude.{slice_index}
use Rattle.misere_theory.specs.Certificates.{times_of}
use Rattle.isomorphisms.proofs.checking.keeps_products_of.Given as goal

abbrev pub invariant-loop-y : goal.invariant-loop-y
invariant-loop-y g l = (k : ℕ) → k < l.y
    → slice_index l.map (times_of l.a l.x k)
    ≡ times_of l.b (slice_index l.map l.x) (slice_index l.map k)
