use Rattle.std.proofs.Common.{◌<◌, ℕ}
use Rattle.relations.specs.Presented.{StepHolds}
use Rattle.relations.proofs.checking.steps_hold_at.Given as goal

abbrev pub invariant-loop-i : goal.invariant-loop-i
invariant-loop-i g l = (k : ℕ) → k < l.i → StepHolds l.table l.elements l.rules.relations.items l.words l.x k
