use Rattle.std.proofs.Common.{ℕ, ◌<◌}
use Rattle.misere_theory.specs.Certificates.{TellsApart, claim_of}
use Rattle.position_commands.proofs.telling.separating.Given as goal

abbrev pub invariant-loop-z : goal.invariant-loop-z
invariant-loop-z l = (w : ℕ) → w < l.z → TellsApart (claim_of l.certified) (l.x, l.y) w → ⊥
