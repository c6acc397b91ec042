use Rattle.std.proofs.Common.{◌≡◌, ℕ, ◌*◌, ◌≤◌, refl, arith}
use Rattle.presented_claims.specs.Folds.{at_letter}
use Rattle.presented_tables.proofs.Below.{below}
use Rattle.class_tables.proofs.thresholds.are_finer.Goals as goal

pub loop-i-preserved : goal.loop-i-preserved
loop-i-preserved c =
    below (λ j. ((at_letter c.args.cycles.now j).0 ≤ (at_letter c.args.folds.now j).0)
    × ((k : ℕ) × ((at_letter c.args.folds.now j).1 ≡ (at_letter c.args.cycles.now j).1 * k))) c.loop-i.i c.loop-i.invariant
    (c.if-not-is_finer_at.ensures.start refl, c.if-not-is_finer_at.ensures.period refl)

pub returns : goal.returns
returns c = λ _. (grind arith, λ i lt. c.loop-i.invariant i (grind arith))
