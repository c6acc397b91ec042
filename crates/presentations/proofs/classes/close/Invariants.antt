use Rattle.std.specs.Prelude.{sum}
use Rattle.presentations.specs.Merging.{Shrinks, AreFirsts}
use Rattle.presentations.proofs.classes.close.Given as goal

abbrev pub invariant-loop-x : goal.invariant-loop-x
invariant-loop-x g l = record {
  kept : Shrinks l.fn.merging l.merging;
  firsts : AreFirsts l.merging.axes l.merging.parents;
}

abbrev pub decreases-loop-x : goal.decreases-loop-x
decreases-loop-x g l = sum l.merging.parents
