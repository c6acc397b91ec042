use Rattle.std.proofs.Common.{ℕ, ◌<◌}
use Rattle.kept_positions.specs.Numbers.{IsClosedBy}
use Rattle.kept_positions.proofs.families.is_turned.Given as goal

abbrev pub invariant-loop-g : goal.invariant-loop-g
invariant-loop-g g l = (h : ℕ) → h < l.g → IsClosedBy l.t l.u l.k l.i l.marks l.x h
