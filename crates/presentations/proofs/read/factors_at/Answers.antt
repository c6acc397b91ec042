use Rattle.std.proofs.Common.{◌≤◌, refl, sym, ◌∙◌, arith, subst, drop}
use Rattle.std.proofs.lemmas.List.{length-set}
use Rattle.std.proofs.lemmas.List.Elements.{All-set}
use Rattle.presentations.specs.declared.TheConstants.{LETTERS, LARGEST_EXPONENT}
use Rattle.presentations.proofs.Reading.{IsReadSoFar, read-none, read-more, read-all, read-much, set-only, all-zeros}
use Rattle.presentations.proofs.read.factors_at.Goals as goal

pub loop-letter-init : goal.loop-letter-init
loop-letter-init c =
    record {
      after = omega arith;
      within = c.requires;
      long = refl;
      few = all-zeros LETTERS;
      so_far = read-none (drop c.args.at c.args.text.now);
    }

pub returns-then-whole-clause-none : goal.returns-then-whole-clause-none
returns-then-whole-clause-none c =
    read-much _ _ _ c.loop-letter.exponents c.in-Some.letter c.in-Some.power
    c.loop-letter.invariant.so_far c.in-Some.ensures.some c.in-Some.ensures.within.0
    c.if-whole.true

pub loop-letter-preserved : goal.loop-letter-preserved
loop-letter-preserved c =
    let v = c.loop-letter.exponents in
    let so = c.loop-letter.invariant in
    record {
      after = omega (arith, so.after, c.in-Some.ensures.within);
      within = c.in-Some.ensures.within.3;
      long = length-set v c.in-Some.letter _ ∙ so.long;
      few = All-set (λ x. x ≤ LARGEST_EXPONENT) v c.in-Some.letter _ c.if-whole.false so.few;
      so_far =
          rw (set-only v LETTERS c.in-Some.letter c.in-Some.power _ so.long
          c.in-Some.ensures.within.0 refl)
          (read-more _ _ _ v c.in-Some.letter c.in-Some.power so.so_far c.in-Some.ensures.some);
    }

pub returns-clause-some : goal.returns-clause-some
returns-clause-some c =
    read-all _ _ c.loop-letter.exponents c.loop-letter.invariant.so_far c.in_default.ensures.none
    c.loop-letter.invariant.long c.loop-letter.invariant.few
