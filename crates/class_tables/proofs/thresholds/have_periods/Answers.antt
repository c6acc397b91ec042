use Rattle.std.proofs.Common.{◌≤◌, refl, arith}
use Rattle.presented_claims.specs.Folds.{at_letter}
use Rattle.presented_tables.proofs.Below.{below}
use Rattle.class_tables.proofs.thresholds.have_periods.Goals as goal

pub loop-i-preserved : goal.loop-i-preserved
loop-i-preserved c =
    below (λ k. 1 ≤ (at_letter c.args.folds.now k).1) c.loop-i.i c.loop-i.invariant (c.if-not-has_period.ensures refl)

pub returns : goal.returns
returns c = λ _ i h. c.loop-i.invariant i (grind arith)
