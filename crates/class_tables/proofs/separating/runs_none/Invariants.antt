use Rattle.std.proofs.Common.{ℕ, ◌<◌}
use Rattle.presented_claims.specs.Led.{RunsOn}
use Rattle.class_tables.proofs.separating.runs_none.Given as goal

abbrev pub invariant-loop-j : goal.invariant-loop-j
invariant-loop-j l = (k : ℕ) → k < l.j → RunsOn l.folds l.a k → ⊥
