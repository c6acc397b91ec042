use Rattle.std.proofs.Common.{◌≡◌, ℕ, ◌<◌, ◌≤◌}
use Rattle.std.specs.Prelude.{slice_index}
use Rattle.presentations.specs.Boxes.{size_of}
use Rattle.presentations.specs.Merging.{AreRelated, Shrinks}
use Rattle.presentations.proofs.classes.first_of.Given as goal

abbrev pub invariant-loop-parent : goal.invariant-loop-parent
invariant-loop-parent g l = record {
  within : l.at < size_of l.initial.merging.axes;
  down : l.parent ≤ l.at;
  here : l.parent ≡ slice_index l.merging.parents l.at;
  on : AreRelated l.initial.merging.axes l.initial.merging.relations l.at l.parent;
  related : AreRelated l.initial.merging.axes l.initial.merging.relations l.from l.at;
  stay : (u : ℕ) → slice_index l.initial.merging.parents u ≡ u → slice_index l.merging.parents u ≡ u;
  kept : Shrinks l.initial.merging l.merging;
}

abbrev pub decreases-loop-parent : goal.decreases-loop-parent
decreases-loop-parent g l = l.at
