use Rattle.std.proofs.Common.{◌<◌, ℕ, length}
use Rattle.relations.specs.Presented.{StepHolds}
use Rattle.relations.proofs.checking.steps_hold.Given as goal

abbrev pub invariant-loop-x : goal.invariant-loop-x
invariant-loop-x g l = (k i : ℕ) → k < l.x → i < length l.elements
    → StepHolds l.table l.elements l.rules.relations.items l.words k i
