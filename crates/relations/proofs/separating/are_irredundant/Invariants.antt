use Rattle.std.proofs.Common.{◌<◌, ℕ}
use Rattle.relations.specs.Bases.{FollowsNot}
use Rattle.relations.proofs.separating.are_irredundant.Given as goal

abbrev pub invariant-loop-k : goal.invariant-loop-k
invariant-loop-k g l = (k : ℕ) → k < l.k → FollowsNot l.letters l.relations k
