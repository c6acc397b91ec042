use Rattle.std.proofs.Common.{◌∷◌, ℕ, refl}
use Rattle.std.specs.Fmt.{decimal}
use Rattle.std.proofs.lemmas.Result.{err_from_is_err_and}
use Rattle.certificate.proofs.Out.{pieces_stop, pieces_are_all, spaced_is}
use Rattle.certificate.proofs.putting.put_words.Goals as goal

pub returns-in_err-put_word-clause-puts : goal.returns-in_err-put_word-clause-puts
returns-in_err-put_word-clause-puts g c =
    let p = err_from_is_err_and c.from_residual.result c.from_residual.ensures.1 in
    rw (p.1) (pieces_stop (λ (x : ℕ). 32 ∷ decimal x) _ _ _ c.args.numbers.now c.loop-x.x-index 0 _
    c.loop-x-test.true c.loop-x.invariant.0 _ c.in_err-put_word.ensures.puts refl
    (spaced_is decimal c.args.numbers.now))

pub returns-clause-puts : goal.returns-clause-puts
returns-clause-puts g c =
    pieces_are_all (λ (x : ℕ). 32 ∷ decimal x) _ _ c.args.numbers.now c.loop-x.x-index _
    c.loop-x-test.false c.loop-x.invariant.0 (spaced_is decimal c.args.numbers.now)
