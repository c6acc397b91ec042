-- A stream of which too much was read.
use Rattle.std.proofs.Common.{◌≡◌, ◌∙◌, ◌<◌, ℕ, List, ◌++◌, Option, Some, None, ap, arith, length, refl}
use Rattle.std.specs.Io.KnownBytes.{Consumes}
use Rattle.std.proofs.lemmas.List.{length-append}
use Rattle.verdict_texts.specs.Streams.{AreKnownAs}
use Rattle.solve_command.specs.Certifies.{IsLargeTable}

longer : (bytes read rest : List ℕ) → bytes ≡ read ++ rest → 100663296 < length read
    → 100663296 < length bytes
longer bytes read rest is more =
    let long = ap length is ∙ length-append read rest in omega (arith, long, more)

pub too_large : (before after : Option (List ℕ)) (read : List ℕ) → Consumes before after read
    → 100663296 < length read → IsLargeTable (AreKnownAs before)
too_large None after read consumed more = (read, tt, more)
too_large (Some bytes) None read consumed more = absurd consumed
too_large (Some bytes) (Some rest) read consumed more =
    (bytes, refl, longer bytes read rest consumed more)
