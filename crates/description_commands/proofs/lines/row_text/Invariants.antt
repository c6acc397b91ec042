use Rattle.std.proofs.Common.{◌≡◌, ◌++◌, codes}
use Rattle.std.specs.String.{string_bytes}
use Rattle.monoid_table.specs.Grids.{times_in}
use Rattle.description_commands.specs.Presented.{row_words}
use Rattle.description_commands.proofs.lines.row_text.Given as goal

abbrev pub invariant-loop-y : goal.invariant-loop-y
invariant-loop-y l = string_bytes l.text ≡ codes "row" ++ row_words (times_in l.table l.x) l.y
