use Rattle.std.proofs.Common.{◌≡◌, ◌+◌, ℕ, refl, arith}
use Rattle.std.proofs.lemmas.Bool.{false≢true}
use Rattle.presentations.proofs.Reading.{letter-alone, letter-raised}
use Rattle.presentations.proofs.read.factor_at.Goals as goal

two-on : (n : ℕ) → n + 1 + 1 ≡ n + 2
two-on n = omega arith

pub returns-then-not-is_byte-clause-some : goal.returns-then-not-is_byte-clause-some
returns-then-not-is_byte-clause-some c =
    rw c.in_ok-letter.ensures.some.2
    (letter-alone _ c.in_ok-letter.letter c.in_ok-letter.ensures.some.0
    (λ caret. false≢true (c.if-not-is_byte.ensures.value.1 caret)))

pub returns-clause-some : goal.returns-clause-some
returns-clause-some c =
    rw (c.in_ok-letter.ensures.some.2, c.if-not-is_byte.ensures.behind refl, two-on c.args.at)
    (letter-raised _ _ c.in_ok-letter.letter c.in_ok-power.power c.in_ok-letter.ensures.some.0
    c.in_ok-power.ensures.some)
