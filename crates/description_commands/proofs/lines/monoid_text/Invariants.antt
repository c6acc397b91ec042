use Rattle.std.proofs.Common.{◌≡◌, ◌++◌, codes, decimal}
use Rattle.std.specs.String.{string_bytes}
use Rattle.description_commands.specs.Presented.{generators_line, row_lines}
use Rattle.description_commands.proofs.lines.monoid_text.Given as goal

abbrev pub invariant-loop-x : goal.invariant-loop-x
invariant-loop-x l =
    string_bytes l.text
    ≡ (codes "order " ++ decimal l.named.table.order ++ codes "\n"
    ++ generators_line l.named.generators.items) ++ row_lines l.named.table l.x
