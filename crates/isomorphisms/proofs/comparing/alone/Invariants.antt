use Rattle.std.proofs.Common.{◌≡◌, ◌<◌, ℕ, length}
use Rattle.std.specs.Prelude.{slice_index}
use Rattle.isomorphisms.proofs.comparing.alone.Given as goal

abbrev pub invariant-loop-x : goal.invariant-loop-x
invariant-loop-x l = (k : ℕ) → k < l.x
    → (y : ℕ) × (y < length l.others) × (slice_index l.colours k ≡ slice_index l.others y)
