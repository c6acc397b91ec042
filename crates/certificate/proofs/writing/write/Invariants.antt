use Rattle.std.proofs.Common.{◌≡◌, take}
use Rattle.std.specs.Io.KnownBytes.{Appends}
use Rattle.std.specs.List.{flat_map}
use Rattle.certificate_text.specs.Spelling.{text}
use Rattle.certificate.specs.LineKinds.{lines_of}
use Rattle.certificate.proofs.writing.write.Given as goal

abbrev pub invariant-loop-kind : goal.invariant-loop-kind
invariant-loop-kind g l =
    Appends (g.W.Sink.taken l.initial.sink) (g.W.Sink.taken l.sink)
    (flat_map (λ k. text (lines_of l.cert k)) (take l.kind-index l.kind-items))
    × (g.W.Sink.failures l.sink ≡ g.W.Sink.failures l.initial.sink)
