use Rattle.presented_tables.specs.Rows.{AreFilled, IsImage}
use Rattle.presented_tables.proofs.rows.images.Given as goal

abbrev pub invariant-loop-k : goal.invariant-loop-k
invariant-loop-k g l = AreFilled (IsImage l.p l.e) l.count l.k 0 l.images.items
