use Rattle.std.proofs.Common.{ℕ, ◌<◌}
use Rattle.kept_positions.specs.Told.{IsTold}
use Rattle.kept_positions.proofs.telling.told_apart.Given as goal

abbrev pub invariant-loop-x : goal.invariant-loop-x
invariant-loop-x g l = (u v : ℕ) → v < u → u < l.x → IsTold l.t l.marks u v
