use Rattle.std.proofs.Common.{ℕ, ◌<◌, refl, arith}
use Rattle.presented_tables.proofs.Below.{below}
use Rattle.class_tables.proofs.Settled.{IsPairSettled, IsClassSettled}
use Rattle.class_tables.proofs.separating.are_separated.Goals as goal

pub loop-x-preserved : goal.loop-x-preserved
loop-x-preserved g c = record {
  pairs =
      below (λ k. (y : ℕ) → y < k
      → IsPairSettled c.args.p.now c.args.l.now c.args.t.now c.args.bits.now c.args.weights.now k y) c.loop-x.x
      c.loop-x.invariant.pairs
      (λ y lt few folds_few. c.if-not-are_settled_with.ensures refl few folds_few y lt);
  classes =
      below (IsClassSettled c.args.p.now c.args.l.now c.args.weights.now) c.loop-x.x c.loop-x.invariant.classes
      (c.if-not-is_class_settled.ensures refl);
}

pub returns : goal.returns
returns g c = λ _ few folds_few. record {
  pairs = λ x y lt inside. c.loop-x.invariant.pairs x (grind arith) y lt few folds_few;
  classes = λ x inside. c.loop-x.invariant.classes x (grind arith) few folds_few;
}
