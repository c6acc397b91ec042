use Rattle.std.proofs.Common.{◌≡◌, ◌+◌}
use Rattle.presented_claims.specs.Led.{weight_of}
use Rattle.class_tables.proofs.Indexed.{from}
use Rattle.class_tables.proofs.weighing.weight.Given as goal

abbrev pub invariant-loop-i : goal.invariant-loop-i
invariant-loop-i l = l.sum + weight_of (from l.i l.weights) (from l.i l.word) ≡ weight_of l.weights l.word
