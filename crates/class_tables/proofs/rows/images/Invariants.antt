use Rattle.class_tables.specs.Tables.{IsImage}
use Rattle.presented_tables.proofs.Filled.{AreFilled}
use Rattle.class_tables.proofs.rows.images.Given as goal

abbrev pub invariant-loop-k : goal.invariant-loop-k
invariant-loop-k g l = AreFilled (IsImage l.p l.l) l.width l.k 0 l.images.items
