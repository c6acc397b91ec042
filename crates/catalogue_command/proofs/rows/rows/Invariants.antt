use Rattle.std.proofs.Common.{take, string_bytes}
use Rattle.catalogue_command.specs.Tables.{AreTexts, IsRow}
use Rattle.catalogue_command.proofs.rows.rows.Given as goal

abbrev pub invariant-loop-certified : goal.invariant-loop-certified
invariant-loop-certified l =
    AreTexts IsRow (take l.certified-index l.entries) (string_bytes l.text)
