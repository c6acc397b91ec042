use Rattle.std.proofs.Common.{ℕ, ◌<◌}
use Rattle.kept_positions.specs.Told.{IsTold}
use Rattle.kept_positions.proofs.telling.tell_class.Given as goal

abbrev pub invariant-loop-y : goal.invariant-loop-y
invariant-loop-y g l = (z : ℕ) → z < l.y → IsTold l.t l.marks l.x z
