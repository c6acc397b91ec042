use Rattle.std.proofs.Common.{◌≡◌, ◌+◌, ℕ, arith}
use Rattle.presentations.proofs.Reading.{one-digit, two-digits, no-exponent, digit-goes-on}
use Rattle.presentations.proofs.read.power_at.Goals as goal
use Rattle.presentations.proofs.read.power_at.Goals.{then-power-gt-LARGEST_EXPONENT-via-then-power-gt-LARGEST_EXPONENT, then-power-gt-LARGEST_EXPONENT-via-else-power-gt-LARGEST_EXPONENT+then-is_some}

two-on : (n : ℕ) → n + 1 + 1 ≡ n + 2
two-on n = omega arith

pub returns-else-first-lt2-clause-some : goal.returns-else-first-lt2-clause-some
returns-else-first-lt2-clause-some c =
    rw c.in_ok-first.ensures.some.2
    (one-digit _ c.in_ok-first.first c.if-first-lt2.false c.in_ok-first.ensures.some.0
    c.in_default.ensures.none)

pub returns-then-power-gt-LARGEST_EXPONENT-clause-none : goal.returns-then-power-gt-LARGEST_EXPONENT-clause-none
returns-then-power-gt-LARGEST_EXPONENT-clause-none c =
    rw (c.in_ok-first.ensures.some.2, c.in-Some.ensures.some.2, two-on c.args.at)
    (no-exponent _ c.in_ok-first.first c.in-Some.second c.in-Some.ensures.some.0
    (λ few ends. elim c.then-power-gt-LARGEST_EXPONENT.branch [
      | then-power-gt-LARGEST_EXPONENT-via-then-power-gt-LARGEST_EXPONENT w ↦ absurd (omega (arith, w.if-power-gt-LARGEST_EXPONENT.true))
      | then-power-gt-LARGEST_EXPONENT-via-else-power-gt-LARGEST_EXPONENT+then-is_some w ↦ digit-goes-on _
          w.digit_at-else-power-gt-LARGEST_EXPONENT.result w.is_some.result _ _ w.is_some.ensures w.if-is_some.true
          w.digit_at-else-power-gt-LARGEST_EXPONENT.ensures.some ends
    ]))

pub returns-clause-some : goal.returns-clause-some
returns-clause-some c =
    rw (c.in_ok-first.ensures.some.2, c.in-Some.ensures.some.2, two-on c.args.at)
    (two-digits _ c.in_ok-first.first c.in-Some.second (omega (arith, c.if-first-eq0.false))
    c.in_ok-first.ensures.some.0 c.in-Some.ensures.some.0 c.if-power-gt-LARGEST_EXPONENT.false)
