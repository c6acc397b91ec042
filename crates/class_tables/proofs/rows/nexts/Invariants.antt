use Rattle.class_tables.specs.Tables.{IsNext}
use Rattle.presented_tables.proofs.Filled.{AreFilled}
use Rattle.class_tables.proofs.rows.nexts.Given as goal

abbrev pub invariant-loop-k : goal.invariant-loop-k
invariant-loop-k g l = AreFilled (IsNext l.p l.l l.s) l.width l.k 0 l.nexts.items
