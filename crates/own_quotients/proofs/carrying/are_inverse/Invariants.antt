use Rattle.std.proofs.Common.{◌≡◌, ◌<◌, ℕ}
use Rattle.std.specs.Prelude.{slice_index}
use Rattle.own_quotients.proofs.carrying.are_inverse.Given as goal

abbrev pub invariant-loop-x : goal.invariant-loop-x
invariant-loop-x l =
    (k : ℕ) → k < l.x
    → (slice_index l.numbers k < l.order) × (slice_index l.elements (slice_index l.numbers k) ≡ k)
