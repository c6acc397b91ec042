use Rattle.std.proofs.Common.{◌≡◌, ◌∷◌, take}
use Rattle.std.specs.Fmt.{decimal}
use Rattle.std.specs.Io.KnownBytes.{Appends}
use Rattle.std.specs.List.{flat_map}
use Rattle.certificate.proofs.putting.put_words.Given as goal

abbrev pub invariant-loop-x : goal.invariant-loop-x
invariant-loop-x g l =
    Appends (g.W.Sink.taken l.initial.sink) (g.W.Sink.taken l.sink)
    (flat_map (λ x. 32 ∷ decimal x) (take l.x-index l.numbers))
    × (g.W.Sink.failures l.sink ≡ g.W.Sink.failures l.initial.sink)
