use Rattle.std.proofs.Common.{◌+◌, ◌-◌, length}
use Rattle.transition_algebra.specs.Trials.{AreCutValues}
use Rattle.transition_algebra.proofs.cut_values.kept_values.Given as goal

abbrev pub invariant-loop-cut : goal.invariant-loop-cut
invariant-loop-cut g l = AreCutValues l.cut l.scene.table.now l.scene.phi.now l.kept.items

abbrev pub decreases-loop-cut : goal.decreases-loop-cut
decreases-loop-cut g l = l.whole + 1 - length l.kept.items
