use Rattle.std.proofs.Common.{ℕ, ◌<◌}
use Rattle.kept_positions.specs.Numbers.{IsMarked, IsGoodClass}
use Rattle.kept_positions.proofs.families.is_shown.Given as goal

abbrev pub invariant-loop-x : goal.invariant-loop-x
invariant-loop-x g l = (y : ℕ) → y < l.x → IsMarked l.marks y → IsGoodClass l.t l.u l.k l.i l.marks y
