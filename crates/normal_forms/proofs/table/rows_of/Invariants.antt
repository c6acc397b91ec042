use Rattle.std.proofs.Common.{◌≡◌, length}
use Rattle.normal_forms.specs.RuleTables.{AreRows}
use Rattle.normal_forms.proofs.table.rows_of.Given as goal

abbrev pub invariant-loop-r : goal.invariant-loop-r
invariant-loop-r g l = record {
  long : length l.rows.items ≡ l.r;
  rows : AreRows l.rules l.rows.items;
}
