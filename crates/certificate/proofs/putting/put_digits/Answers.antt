use Rattle.std.proofs.Common.{rules, ◌≡◌, ◌<◌, ◌∷◌, [], ℕ, drop, length, get_or, ap, ◌∙◌, arith}
use Rattle.std.proofs.lemmas.Result.{err_from_is_err_and}
use Rattle.std.proofs.lemmas.List.Concat.{flat_map_single}
use Rattle.octal_code.specs.Text.{digit_byte}
use Rattle.certificate.proofs.Out.{pieces_go_on, pieces_stop, digit_place, digits_behind}
use Rattle.certificate.proofs.putting.put_digits.Given.{Over}
use Rattle.certificate.proofs.putting.put_digits.Goals as goal
use Rattle.certificate.proofs.putting.put_digits.Goals.{After-digit_byte}

-- the digit that goes out
within : (g : Over) (c : goal.After-digit_byte g) → c.loop-j.j < length (drop 1 c.args.code.now)
within g c = omega (arith, digits_behind c.args.code.now, c.last-j-end.ensures.value)

is : (g : Over) (c : goal.After-digit_byte g)
    → c.digit_byte.result ∷ [] ≡ digit_byte (get_or (drop 1 c.args.code.now) c.loop-j.j 0) ∷ []
is g c = ap (λ (b : ℕ). b ∷ [])
    (c.digit_byte.ensures.value ∙ ap digit_byte (digit_place c.args.code.now c.loop-j.j))

pub returns-in_err-write_whole-clause-puts : goal.returns-in_err-write_whole-clause-puts
returns-in_err-write_whole-clause-puts g c =
    let p = err_from_is_err_and c.from_residual.result c.from_residual.ensures.1 in
    let here = (goal.at.returns-in_err-write_whole-clause-puts g c).After-digit_byte in
    rw (p.1) (pieces_stop (λ (d : ℕ). digit_byte d ∷ []) _ _ _ (drop 1 c.args.code.now) c.loop-j.j 0
    _ (within g here) c.loop-j.invariant.0 _ c.in_err-write_whole.ensures.puts (is g here)
    (flat_map_single digit_byte (drop 1 c.args.code.now)))

pub loop-j-preserved : goal.loop-j-preserved
loop-j-preserved g c =
    let here = (goal.at.loop-j-preserved g c).After-digit_byte in (
      pieces_go_on (λ (d : ℕ). digit_byte d ∷ []) _ _ _ (drop 1 c.args.code.now) c.loop-j.j 0 _
          (within g here) c.loop-j.invariant.0 c.in_ok-write_whole.ensures.puts (is g here),
      search rules,
    )
