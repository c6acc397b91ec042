use Rattle.std.proofs.Common.{◌≡◌}
use Rattle.std.specs.String.{string_bytes}
use Rattle.descriptions.specs.MultiplicationTables.{products_text}
use Rattle.descriptions.proofs.multiplication.products_text.Given as goal

abbrev pub invariant-loop-y : goal.invariant-loop-y
invariant-loop-y l = string_bytes l.text ≡ products_text l.table l.x l.y
