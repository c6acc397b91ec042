use Rattle.std.proofs.Common.{Bool, ℕ, List}
use Rattle.outcome_rule.proofs.Looked.{IsLookBelow}
use Rattle.outcome_rule.proofs.rule.look.Given as goal

abbrev pub invariant-loop-k : goal.invariant-loop-k
invariant-loop-k g l =
    (says : List ℕ → Bool) → g.S.SaysOutcomes.are_said l.claim says → IsLookBelow l.code says l.heaps l.k l.found
