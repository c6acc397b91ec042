use Rattle.std.proofs.Common.{refl, arith}
use Rattle.presented_tables.proofs.Below.{below}
use Rattle.presented_claims.specs.Led.{RunsOn}
use Rattle.class_tables.proofs.separating.runs_none.Goals as goal

pub loop-j-preserved : goal.loop-j-preserved
loop-j-preserved c =
    below (λ k. RunsOn c.args.folds.now c.args.a.now k → ⊥) c.loop-j.j c.loop-j.invariant
    (c.runs_on.ensures.no c.if-runs_on.false)

pub returns : goal.returns
returns c = λ _ j run. c.loop-j.invariant j (let lt = run.0 in grind (arith, lt)) run
