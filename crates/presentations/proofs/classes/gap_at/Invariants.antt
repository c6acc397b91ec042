use Rattle.std.proofs.Common.{◌≡◌, ◌<◌, ℕ}
use Rattle.std.specs.Prelude.{slice_index}
use Rattle.presentations.specs.Boxes.{next_of}
use Rattle.presentations.proofs.classes.gap_at.Given as goal

abbrev pub invariant-loop-i : goal.invariant-loop-i
invariant-loop-i g l = (k : ℕ) → k < l.i
    → slice_index l.merging.parents (next_of l.merging.axes k l.at)
    ≡ slice_index l.merging.parents (next_of l.merging.axes k l.first)
