use Rattle.std.proofs.Common.{◌+◌, ◌*◌, length, true}
use Rattle.presented_tables.specs.Rows.{AreFilled, IsColumnMark}
use Rattle.presented_tables.proofs.rows.with_column.Given as goal

abbrev pub invariant-loop-x : goal.invariant-loop-x
invariant-loop-x g l =
    AreFilled (IsColumnMark l.p l.e l.s) (length l.e.words) (l.g * length l.e.words + l.x) true l.columns.items
