use Rattle.presented_tables.specs.Rows.{AreFilled, IsNext}
use Rattle.presented_tables.proofs.rows.nexts.Given as goal

abbrev pub invariant-loop-k : goal.invariant-loop-k
invariant-loop-k g l = AreFilled (IsNext l.p l.e l.s) l.width l.k 0 l.nexts.items
