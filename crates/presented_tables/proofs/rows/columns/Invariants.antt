use Rattle.std.proofs.Common.{◌*◌, length, true}
use Rattle.presented_tables.specs.Rows.{AreFilled, IsColumnMark}
use Rattle.presented_tables.proofs.rows.columns.Given as goal

abbrev pub invariant-loop-g : goal.invariant-loop-g
invariant-loop-g g l =
    AreFilled (IsColumnMark l.p l.e l.s) (length l.e.words) (l.g * length l.e.words) true l.columns.items
