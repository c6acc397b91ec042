use Rattle.std.proofs.Common.{◌≡◌, ℕ, ◌*◌, ◌<◌, ◌++◌, List, length}
use Rattle.compact_certificates.specs.Lanes.{has, is_marked}
use Rattle.compact_certificates.proofs.separators.push_context.Given as goal

-- so many lanes are put behind, and say what is marked
abbrev pub invariant-loop-i : goal.invariant-loop-i
invariant-loop-i g l =
    (more : List ℕ) × (l.lanes.items ≡ l.initial.lanes.items ++ more) × (length more ≡ l.i)
    × ((z : ℕ) → z < 64 * l.i → has more z ≡ is_marked l.row l.marked z)
