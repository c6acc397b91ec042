use Rattle.std.proofs.Common.{◌≤◌, refl, arith}
use Rattle.std.specs.Prelude.{slice_index}
use Rattle.presented_claims.specs.Folds.{at_letter}
use Rattle.presented_tables.proofs.Below.{below}
use Rattle.class_tables.proofs.thresholds.is_above.Goals as goal

pub loop-i-preserved : goal.loop-i-preserved
loop-i-preserved c =
    below (λ k. slice_index c.args.rule.now.0 k ≤ (at_letter c.args.folds.now k).0) c.loop-i.i c.loop-i.invariant
    (c.if-not-is_above_at.ensures refl)

pub returns : goal.returns
returns c = λ _ i h. c.loop-i.invariant i (grind arith)
