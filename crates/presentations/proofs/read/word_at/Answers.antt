use Rattle.std.proofs.Common.{refl, ap, arith, drop}
use Rattle.std.proofs.lemmas.List.{length-drop}
use Rattle.std.proofs.lemmas.Bool.{false≢true}
use Rattle.presentations.proofs.Reading.{word-one, word-product, no-factors}
use Rattle.presentations.proofs.read.word_at.Goals as goal

pub returns-then-is_byte-clause-some : goal.returns-then-is_byte-clause-some
returns-then-is_byte-clause-some c = rw (c.if-is_byte.ensures.behind refl) (word-one _)

pub returns-then-end-at-clause-none : goal.returns-then-end-at-clause-none
returns-then-end-at-clause-none c =
    no-factors _ _ c.in_ok-exponents.exponents
    (λ one. false≢true (c.if-is_byte.ensures.value.1 one)) c.in_ok-exponents.ensures.some
    (ap (λ n. drop n c.args.text.now) c.if-end-at.true)

pub returns-else-end-at-clause-some : goal.returns-else-end-at-clause-some
returns-else-end-at-clause-some c =
    word-product _ _ c.in_ok-exponents.exponents
    (λ one. false≢true (c.if-is_byte.ensures.value.1 one)) c.in_ok-exponents.ensures.some
    (omega (
      arith,
      c.if-end-at.false,
      c.in_ok-exponents.ensures.within,
      length-drop c.in_ok-exponents.end c.args.text.now,
      length-drop c.args.at c.args.text.now,
    ))
