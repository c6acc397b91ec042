use Rattle.std.proofs.Common.{◌<◌, ℕ}
use Rattle.presentations.specs.Merging.{StepsHoldAt}
use Rattle.presentations.proofs.classes.step_gap.Given as goal

abbrev pub invariant-loop-at : goal.invariant-loop-at
invariant-loop-at g l = (u : ℕ) → u < l.at → StepsHoldAt l.merging.axes l.merging.parents u
