use Rattle.std.proofs.Common.{true}
use Rattle.presented_tables.specs.Rows.{AreFilled, IsMark}
use Rattle.presented_tables.proofs.rows.marks.Given as goal

abbrev pub invariant-loop-k : goal.invariant-loop-k
invariant-loop-k g l = AreFilled (IsMark l.p l.e l.s) l.width l.k true l.marks.items
