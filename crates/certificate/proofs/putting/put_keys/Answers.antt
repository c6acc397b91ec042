use Rattle.std.proofs.Common.{◌∷◌, ℕ, ap}
use Rattle.std.proofs.lemmas.Result.{err_from_is_err_and}
use Rattle.certificate_text.specs.Spelling.{key_word}
use Rattle.certificate.proofs.Out.{pieces_stop, pieces_are_all, spaced_is}
use Rattle.certificate.proofs.putting.put_keys.Goals as goal

pub returns-in_err-put_key-clause-puts : goal.returns-in_err-put_key-clause-puts
returns-in_err-put_key-clause-puts g c =
    let p = err_from_is_err_and c.from_residual.result c.from_residual.ensures.1 in
    rw (p.1) (pieces_stop (λ (k : ℕ × ℕ). 32 ∷ key_word k) _ _ _ c.args.keys.now
    c.loop-key.key-index c.key-item.result _ c.loop-key-test.true c.loop-key.invariant.0 _
    c.in_err-put_key.ensures.puts (ap (λ (k : ℕ × ℕ). 32 ∷ key_word k) c.key-item.is)
    (spaced_is key_word c.args.keys.now))

pub returns-clause-puts : goal.returns-clause-puts
returns-clause-puts g c =
    pieces_are_all (λ (k : ℕ × ℕ). 32 ∷ key_word k) _ _ c.args.keys.now c.loop-key.key-index _
    c.loop-key-test.false c.loop-key.invariant.0 (spaced_is key_word c.args.keys.now)
