use Rattle.std.proofs.Common.{◌≡◌, ◌∙◌, ℕ, ◌+◌, ◌*◌, ◌<◌, ◌≤◌, length, arith}
use Rattle.std.specs.Prelude.{slice_index}
use Rattle.std.proofs.lemmas.List.{length-set}
use Rattle.presentations.specs.declared.TheConstants.{LETTERS}
use Rattle.presented_claims.specs.Folds.{at_letter}
use Rattle.class_tables.proofs.Pushed.{set-below}
use Rattle.presented_tables.proofs.Words.{sum-word}
use Rattle.class_tables.proofs.steps.periods_between.Goals as goal

pub loop-i-preserved : goal.loop-i-preserved
loop-i-preserved c =
    let known : c.loop-i.i < length c.loop-i.more = let h = c.loop-i.invariant.long in grind (arith, h) in
    record {
      long = length-set c.loop-i.more c.loop-i.i c.in_ok-more.field-0 ∙ c.loop-i.invariant.long;
      sum =
          set-below (λ k m. slice_index c.args.u.now k ≡ slice_index c.args.s.now k + m) c.loop-i.more c.loop-i.i
          c.in_ok-more.field-0 0 known c.loop-i.invariant.sum c.in_ok-more.ensures.sum;
      large =
          set-below (λ k m. 0 < m → (k < length c.args.tops.now) × ((at_letter c.args.tops.now k).0 ≤ slice_index c.args.s.now k))
          c.loop-i.more c.loop-i.i c.in_ok-more.field-0 0 known c.loop-i.invariant.large c.in_ok-more.ensures.large;
      whole =
          set-below (λ k m. k < length c.args.tops.now → (n : ℕ) × (m ≡ (at_letter c.args.tops.now k).1 * n))
          c.loop-i.more c.loop-i.i c.in_ok-more.field-0 0 known c.loop-i.invariant.whole c.in_ok-more.ensures.whole;
    }

pub returns-clause-sum : goal.returns-clause-sum
returns-clause-sum c =
    sum-word LETTERS c.args.s.now c.loop-i.more c.args.u.now c.told-s c.loop-i.invariant.long c.told-u
    (λ i lt. c.loop-i.invariant.sum i (omega (arith, lt, c.loop-i-test.false)))

pub returns-clause-whole : goal.returns-clause-whole
returns-clause-whole c = λ few. record {
  long = c.loop-i.invariant.long;
  large = λ i lt some. c.loop-i.invariant.large i (omega (arith, lt, c.loop-i-test.false)) some;
  whole = λ i lt. c.loop-i.invariant.whole i (omega (arith, lt, few, c.loop-i-test.false)) lt;
}
