use Rattle.std.proofs.Common.{◌≡◌, ◌-◌, take}
use Rattle.std.specs.Io.KnownBytes.{Appends}
use Rattle.std.specs.List.{flat_map}
use Rattle.certificate_text.specs.Spelling.{said}
use Rattle.certificate.proofs.Out.{row_text}
use Rattle.certificate.proofs.putting.put_rows.Given as goal

abbrev pub invariant-loop-x : goal.invariant-loop-x
invariant-loop-x g l =
    Appends (g.W.Sink.taken l.initial.sink) (g.W.Sink.taken l.sink)
    (flat_map row_text (take (l.x - l.start) (said l.cert).rows))
    × (g.W.Sink.failures l.sink ≡ g.W.Sink.failures l.initial.sink)
