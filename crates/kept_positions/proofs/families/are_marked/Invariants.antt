use Rattle.std.proofs.Common.{ℕ, ◌<◌, ◌≤◌, slice_index}
use Rattle.kept_positions.specs.Numbers.{IsMarked}
use Rattle.kept_positions.proofs.families.are_marked.Given as goal

abbrev pub invariant-loop-o : goal.invariant-loop-o
invariant-loop-o g l = (p : ℕ) → l.from ≤ p → p < l.o → IsMarked l.marks (slice_index l.u.onto p)
