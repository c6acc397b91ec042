use Rattle.std.proofs.Common.{◌≡◌, ℕ, ◌<◌}
use Rattle.std.specs.Prelude.{slice_index}
use Rattle.compact_certificates.proofs.separators.least_difference.Given as goal

-- the lanes up to i are the same
abbrev pub invariant-loop-i : goal.invariant-loop-i
invariant-loop-i l = (k : ℕ) → k < l.i → slice_index l.xs k ≡ slice_index l.ys k
