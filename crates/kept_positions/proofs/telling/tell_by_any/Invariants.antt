use Rattle.std.proofs.Common.{◌≡◌, ℕ, ◌<◌}
use Rattle.kept_positions.specs.Told.{mark_of}
use Rattle.kept_positions.proofs.telling.tell_by_any.Given as goal

abbrev pub invariant-loop-w : goal.invariant-loop-w
invariant-loop-w g l = (v : ℕ) → v < l.w → mark_of l.t l.marks v l.x ≡ mark_of l.t l.marks v l.y
