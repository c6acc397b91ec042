use Rattle.std.proofs.Common.{◌∷◌, ℕ, subst}
use Rattle.std.specs.Fmt.{decimal}
use Rattle.std.proofs.lemmas.Result.{err_from_is_err_and}
use Rattle.streams.specs.Stream.{AppendsSome, Puts}
use Rattle.certificate_text.specs.Spelling.{key_word}
use Rattle.streams.proofs.StreamLaws.{puts_then, some_more}
use Rattle.certificate.proofs.putting.put_key.Goals as goal

pub returns-clause-puts : goal.returns-clause-puts
returns-clause-puts g c =
    subst (λ (k : ℕ × ℕ). Puts (g.W.Sink.taken c.args.sink.now) (g.W.Sink.taken c.put_heap.new.sink)
    c.put_heap.result (32 ∷ key_word k)) c.key.view_is
    (puts_then _ _ _ c.put_heap.result (32 ∷ decimal c.key.inside.element)
    (58 ∷ decimal c.key.inside.heap) c.in_ok-put_word.ensures.puts c.put_heap.ensures.puts)

pub returns-in_err-put_word-clause-puts : goal.returns-in_err-put_word-clause-puts
returns-in_err-put_word-clause-puts g c =
    let p = err_from_is_err_and c.from_residual.result c.from_residual.ensures.1 in
    rw (p.1)
    (subst
    (λ (k : ℕ × ℕ). AppendsSome (g.W.Sink.taken c.args.sink.now)
    (g.W.Sink.taken c.put_word.new.sink) (32 ∷ key_word k)) c.key.view_is
    (some_more _ _ (32 ∷ decimal c.key.inside.element) (58 ∷ decimal c.key.inside.heap)
    c.in_err-put_word.ensures.puts))
