use Rattle.std.proofs.Common.{◌++◌, ◌∷◌, [], map, codes}
use Rattle.std.proofs.lemmas.Result.{err_from_is_err_and}
use Rattle.certificate_text.specs.Spelling.{spaced, key_word}
use Rattle.streams.proofs.StreamLaws.{puts_three, some_of_three, some_more}
use Rattle.certificate.proofs.putting.put_key_line.Goals as goal

pub returns-in_err-write_whole-clause-puts : goal.returns-in_err-write_whole-clause-puts
returns-in_err-write_whole-clause-puts g c =
    let p = err_from_is_err_and c.from_residual.result c.from_residual.ensures.1 in
    rw (p.1) (some_more _ _ (codes "words") (spaced (map key_word c.args.keys.now) ++ 10 ∷ [])
    c.in_err-write_whole.ensures.puts)

pub returns-in_err-put_keys-clause-puts : goal.returns-in_err-put_keys-clause-puts
returns-in_err-put_keys-clause-puts g c =
    let p =
    err_from_is_err_and c.from_residual-in_err-put_keys.result
    c.from_residual-in_err-put_keys.ensures.1 in
    rw (p.1) (some_of_three _ _ _ (g.W.Sink.taken c.put_keys.new.sink) (codes "words")
    (spaced (map key_word c.args.keys.now)) (10 ∷ []) c.in_ok-write_whole.ensures.puts
    c.in_err-put_keys.ensures.puts)

pub returns-clause-puts : goal.returns-clause-puts
returns-clause-puts g c =
    puts_three _ _ _ _ (codes "words") (spaced (map key_word c.args.keys.now)) (10 ∷ [])
    c.write_whole-2.result c.in_ok-write_whole.ensures.puts c.in_ok-put_keys.ensures.puts
    c.write_whole-2.ensures.puts
