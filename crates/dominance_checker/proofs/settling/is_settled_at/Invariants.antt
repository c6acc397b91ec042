use Rattle.std.proofs.Common.{◌<◌, ℕ}
use Rattle.dominance_checker.specs.States.{IsSettledWith}
use Rattle.dominance_checker.proofs.settling.is_settled_at.Given as goal

abbrev pub invariant-loop-lead : goal.invariant-loop-lead
invariant-loop-lead l = (m : ℕ) → m < l.lead → IsSettledWith l.u l.sides l.k l.weight m
