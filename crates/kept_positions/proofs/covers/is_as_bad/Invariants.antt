use Rattle.std.proofs.Common.{ℕ, ◌<◌}
use Rattle.kept_positions.specs.Numbers.{IsBadWith, IsBadAt}
use Rattle.kept_positions.proofs.covers.is_as_bad.Given as goal

abbrev pub invariant-loop-x : goal.invariant-loop-x
invariant-loop-x g l = (x : ℕ) → x < l.x → IsBadWith l.t l.k l.i l.g x
    → IsBadAt l.t l.k l.j x
