use Rattle.std.proofs.Common.{ℕ, refl}
use Rattle.kept_positions.specs.Numbers.{IsMadeOf}
use Rattle.kept_positions.proofs.Below.{between}
use Rattle.kept_positions.proofs.testing.are_made.Goals as goal

pub loop-j-preserved : goal.loop-j-preserved
loop-j-preserved g c = between (λ j. (i : ℕ) × (g : ℕ) × IsMadeOf c.args.t.now c.args.k.now j i g) 1 c.loop-j.j c.loop-j.invariant (c.if-not-is_made.ensures refl)
