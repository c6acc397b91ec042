use Rattle.std.proofs.Common.{◌≡◌, ◌∷◌, [], ℕ, map, drop, subst, sym, ap, ◌∙◌}
use Rattle.std.proofs.lemmas.Result.{err_from_is_err_and}
use Rattle.streams.specs.Stream.{AppendsSome, Puts}
use Rattle.octal_code.specs.Text.{code_text, digit_byte}
use Rattle.streams.proofs.StreamLaws.{puts_then, some_more}
use Rattle.certificate.proofs.Out.{code_is}
use Rattle.certificate.proofs.putting.put_code.Given.{Over}
use Rattle.certificate.proofs.putting.put_code.Goals as goal
use Rattle.certificate.proofs.putting.put_code.Goals.{After-digit_byte}

is : (g : Over) (c : goal.After-digit_byte g)
    → c.digit_byte.result ∷ 46 ∷ map digit_byte (drop 1 c.args.code.now) ≡ code_text c.args.code.now
is g c =
    ap (λ (b : ℕ). b ∷ 46 ∷ map digit_byte (drop 1 c.args.code.now)) c.digit_byte.ensures.value
    ∙ sym (code_is c.args.code.now c.digit_byte.ensures.code)

pub returns-in_err-write_whole-clause-puts : goal.returns-in_err-write_whole-clause-puts
returns-in_err-write_whole-clause-puts g c =
    let p = err_from_is_err_and c.from_residual.result c.from_residual.ensures.1 in
    rw (p.1)
    (subst
    (AppendsSome (g.W.Sink.taken c.args.sink.now) (g.W.Sink.taken c.write_whole.new.sink))
    (is g (goal.at.returns-in_err-write_whole-clause-puts g c).After-digit_byte)
    (some_more _ _ (c.digit_byte.result ∷ 46 ∷ []) (map digit_byte (drop 1 c.args.code.now))
    c.in_err-write_whole.ensures.puts))

pub returns-clause-puts : goal.returns-clause-puts
returns-clause-puts g c =
    subst (Puts (g.W.Sink.taken c.args.sink.now) (g.W.Sink.taken c.put_digits.new.sink)
    c.put_digits.result) (is g (goal.at.returns-clause-puts g c).After-digit_byte)
    (puts_then _ _ _ c.put_digits.result (c.digit_byte.result ∷ 46 ∷ [])
    (map digit_byte (drop 1 c.args.code.now)) c.in_ok-write_whole.ensures.puts
    c.put_digits.ensures.puts)
