use Rattle.std.proofs.Common.{◌∷◌, [], map}
use Rattle.std.proofs.lemmas.Result.{err_from_is_err_and}
use Rattle.std.specs.Fmt.{decimal}
use Rattle.certificate_text.specs.Spelling.{spaced}
use Rattle.streams.proofs.StreamLaws.{puts_three, some_of_three}
use Rattle.certificate.proofs.putting.put_line.Goals as goal

pub returns-in_err-put_words-clause-puts : goal.returns-in_err-put_words-clause-puts
returns-in_err-put_words-clause-puts g c =
    let p =
    err_from_is_err_and c.from_residual-in_err-put_words.result
    c.from_residual-in_err-put_words.ensures.1 in
    rw (p.1) (some_of_three _ _ _ (g.W.Sink.taken c.put_words.new.sink) c.args.name.now
    (spaced (map decimal c.args.numbers.now)) (10 ∷ []) c.in_ok-write_whole.ensures.puts
    c.in_err-put_words.ensures.puts)

pub returns-clause-puts : goal.returns-clause-puts
returns-clause-puts g c =
    puts_three _ _ _ _ c.args.name.now (spaced (map decimal c.args.numbers.now)) (10 ∷ [])
    c.write_whole-2.result c.in_ok-write_whole.ensures.puts c.in_ok-put_words.ensures.puts
    c.write_whole-2.ensures.puts
