use Rattle.std.proofs.Common.{◌≡◌, take}
use Rattle.std.specs.String.{string_bytes}
use Rattle.descriptions.specs.MultiplicationTables.{more_numbers}
use Rattle.descriptions.proofs.multiplication.more_numbers.Given as goal

abbrev pub invariant-loop-x : goal.invariant-loop-x
invariant-loop-x l = string_bytes l.text ≡ more_numbers (take l.x-index l.elements)
