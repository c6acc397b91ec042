use Rattle.std.proofs.Common.{◌≡◌, ◌∷◌, take}
use Rattle.std.specs.Io.KnownBytes.{Appends}
use Rattle.std.specs.List.{flat_map}
use Rattle.certificate_text.specs.Spelling.{key_word}
use Rattle.certificate.proofs.putting.put_keys.Given as goal

abbrev pub invariant-loop-key : goal.invariant-loop-key
invariant-loop-key g l =
    Appends (g.W.Sink.taken l.initial.sink) (g.W.Sink.taken l.sink)
    (flat_map (λ k. 32 ∷ key_word k) (take l.key-index l.keys))
    × (g.W.Sink.failures l.sink ≡ g.W.Sink.failures l.initial.sink)
