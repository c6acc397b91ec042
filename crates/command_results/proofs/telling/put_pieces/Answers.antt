use Rattle.std.proofs.lemmas.Result.{err_from_is_err_and}
use Rattle.command_results.proofs.Going.{puts_three, some_of_three}
use Rattle.command_results.proofs.telling.put_pieces.Goals as goal

pub returns-in_err-write_whole-2-clause-puts : goal.returns-in_err-write_whole-2-clause-puts
returns-in_err-write_whole-2-clause-puts g c =
    let p =
    err_from_is_err_and c.from_residual-in_err-write_whole-2.result
    c.from_residual-in_err-write_whole-2.ensures.1 in
    rw (p.1) (some_of_three (g.E.Sink.taken c.args.err.now) (g.E.Sink.taken c.write_whole.new.sink)
    (g.E.Sink.taken c.write_whole-2.new.sink) (g.E.Sink.taken c.write_whole-2.new.sink)
    c.args.front.now c.args.name.now c.args.back.now c.as_bytes.result.now c.as_bytes-2.result.now
    c.args.back.now c.as_bytes.ensures.value c.as_bytes-2.ensures.value
    c.in_ok-write_whole.ensures.puts c.in_err-write_whole-2.ensures.puts)

pub returns-clause-puts : goal.returns-clause-puts
returns-clause-puts g c =
    puts_three (g.E.Sink.taken c.args.err.now) (g.E.Sink.taken c.write_whole.new.sink)
    (g.E.Sink.taken c.write_whole-2.new.sink) (g.E.Sink.taken c.write_whole-3.new.sink)
    c.args.front.now c.args.name.now c.args.back.now c.as_bytes.result.now c.as_bytes-2.result.now
    c.as_bytes-3.result.now c.as_bytes.ensures.value c.as_bytes-2.ensures.value
    c.write_whole-3.result c.as_bytes-3.ensures.value
    c.in_ok-write_whole.ensures.puts c.in_ok-write_whole-2.ensures.puts c.write_whole-3.ensures.puts
