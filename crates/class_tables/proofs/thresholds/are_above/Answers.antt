use Rattle.std.proofs.Common.{ℕ, ◌<◌, ◌≤◌, length, refl, subst, arith}
use Rattle.std.specs.Prelude.{slice_index}
use Rattle.presented_claims.specs.Folds.{at_letter}
use Rattle.relations.proofs.Each.{each-next}
use Rattle.class_tables.proofs.thresholds.are_above.Goals as goal

pub loop-k-preserved : goal.loop-k-preserved
loop-k-preserved c =
    each-next (λ r. (i : ℕ) → i < length c.args.folds.now → slice_index r.0 i ≤ (at_letter c.args.folds.now i).0)
    c.args.rules.now c.loop-k.k c.index-rules-k.result (omega (arith, c.loop-k-test.true)) c.loop-k.invariant
    (subst (λ r. (i : ℕ) → i < length c.args.folds.now → slice_index r.0 i ≤ (at_letter c.args.folds.now i).0)
    c.index-rules-k.is (c.if-not-is_above.ensures refl))

pub returns : goal.returns
returns c = λ _ k d lt. c.loop-k.invariant k d (omega (arith, lt, c.loop-k-test.false))
