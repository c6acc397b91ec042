use Rattle.std.proofs.Common.{ℕ, ◌<◌, length, refl, arith}
use Rattle.presented_claims.specs.Claims.{IsElement}
use Rattle.presented_tables.proofs.Below.{below}
use Rattle.class_tables.specs.Classes.{word_at}
use Rattle.class_tables.proofs.Listed.{IsListedWith, are-classes}
use Rattle.class_tables.proofs.listing.are_classes.Goals as goal

pub loop-x-preserved : goal.loop-x-preserved
loop-x-preserved g c = record {
  elements =
      below (λ k. IsElement c.args.p.now (word_at c.args.list.now k)) c.loop-x.x c.loop-x.invariant.elements
      (c.if-not-is_listed_at.ensures.element refl);
  more =
      below (λ k. (i : ℕ) → i < length c.args.p.now.letters
      → IsListedWith c.args.p.now c.args.folds.now c.args.list.now (word_at c.args.list.now k) i) c.loop-x.x
      c.loop-x.invariant.more (c.if-not-is_listed_at.ensures.more refl);
}

pub returns : goal.returns
returns g c = λ _ periods.
    are-classes c.args.p.now c.args.folds.now periods c.args.list.now (c.if-not-is_first.ensures refl).0
    (c.if-not-is_first.ensures refl).1 (λ k h. c.loop-x.invariant.elements k (grind arith))
    (λ k h. c.loop-x.invariant.more k (grind arith))
