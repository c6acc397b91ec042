use Rattle.std.proofs.Common.{◌≡◌, ◌∷◌, [], take, drop}
use Rattle.std.specs.Io.KnownBytes.{Appends}
use Rattle.std.specs.List.{flat_map}
use Rattle.octal_code.specs.Text.{digit_byte}
use Rattle.certificate.proofs.putting.put_digits.Given as goal

abbrev pub invariant-loop-j : goal.invariant-loop-j
invariant-loop-j g l =
    Appends (g.W.Sink.taken l.initial.sink) (g.W.Sink.taken l.sink)
    (flat_map (λ d. digit_byte d ∷ []) (take l.j (drop 1 l.code)))
    × (g.W.Sink.failures l.sink ≡ g.W.Sink.failures l.initial.sink)
