use Rattle.std.proofs.Common.{◌∷◌, []}
use Rattle.std.specs.Fmt.{decimal}
use Rattle.streams.proofs.StreamLaws.{puts_then}
use Rattle.certificate.proofs.putting.put_heap.Goals as goal

pub returns-clause-puts : goal.returns-clause-puts
returns-clause-puts g c =
    puts_then (g.W.Sink.taken c.args.sink.now) (g.W.Sink.taken c.write_whole.new.sink)
    (g.W.Sink.taken c.put_number.new.sink) c.put_number.result (58 ∷ []) (decimal c.args.n)
    c.in_ok-write_whole.ensures.puts c.put_number.ensures.puts
