use Rattle.normal_forms.specs.RuleTables.{IsRow}
use Rattle.normal_forms.proofs.table.row_of.Given as goal

abbrev pub invariant-loop-x : goal.invariant-loop-x
invariant-loop-x l = IsRow l.rules l.start l.i l.e l.row
