use Rattle.std.proofs.Common.{◌≡◌}
use Rattle.std.specs.String.{string_bytes}
use Rattle.descriptions.specs.Rows.{cells}
use Rattle.descriptions.proofs.rows.cells.Given as goal

abbrev pub invariant-loop-k : goal.invariant-loop-k
invariant-loop-k l =
    string_bytes l.text ≡ cells l.frame l.certified l.letters l.words l.from l.k
