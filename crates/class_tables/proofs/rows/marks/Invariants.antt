use Rattle.std.proofs.Common.{true}
use Rattle.class_tables.specs.Tables.{IsMark}
use Rattle.presented_tables.proofs.Filled.{AreFilled}
use Rattle.class_tables.proofs.rows.marks.Given as goal

abbrev pub invariant-loop-k : goal.invariant-loop-k
invariant-loop-k g l = AreFilled (IsMark l.p l.l l.s) l.width l.k true l.marks.items
