use Rattle.std.proofs.Common.{◌<◌, ℕ}
use Rattle.dominance_checker.specs.States.{IsSettledAt}
use Rattle.dominance_checker.proofs.settling.is_settled_below.Given as goal

abbrev pub invariant-loop-weight : goal.invariant-loop-weight
invariant-loop-weight l = (m : ℕ) → m < l.weight → IsSettledAt l.u l.sides l.k m
