use Rattle.std.proofs.Common.{◌≡◌, ◌≢◌, ◌<◌, ℕ}
use Rattle.std.specs.Prelude.{slice_index}
use Rattle.descriptions.proofs.presenting.is_between_powers_of.Given as goal

abbrev pub invariant-loop-i : goal.invariant-loop-i
invariant-loop-i l = (k : ℕ) → k < l.i → k ≢ l.letter
    → (slice_index l.relation.left k ≡ 0) × (slice_index l.relation.right k ≡ 0)
