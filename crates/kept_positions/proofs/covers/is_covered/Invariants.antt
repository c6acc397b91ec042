use Rattle.std.proofs.Common.{ℕ, ◌<◌}
use Rattle.kept_positions.specs.Numbers.{IsBadWith, IsCoveredAt}
use Rattle.kept_positions.proofs.covers.is_covered.Given as goal

abbrev pub invariant-loop-x : goal.invariant-loop-x
invariant-loop-x g l = (x : ℕ) → x < l.x → IsBadWith l.t l.k l.i l.g x
    → IsCoveredAt l.t l.k l.i l.g x
