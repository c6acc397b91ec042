use Rattle.std.proofs.Common.{take}
use Rattle.std.specs.String.{string_bytes}
use Rattle.descriptions.specs.Structure.{AreLines}
use Rattle.descriptions.proofs.structure.lines_text.Given as goal

abbrev pub invariant-loop-e : goal.invariant-loop-e
invariant-loop-e l =
    AreLines l.table l.letters l.words l.listing (take l.e-index l.idempotents) (string_bytes l.text)
