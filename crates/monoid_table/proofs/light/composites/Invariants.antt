use Rattle.monoid_table.specs.Light.{AreComposite}
use Rattle.monoid_table.proofs.light.composites.Given as goal

abbrev pub invariant-loop-x : goal.invariant-loop-x
invariant-loop-x l = AreComposite l.order l.rows l.marks

abbrev pub invariant-loop-y : goal.invariant-loop-y
invariant-loop-y l = AreComposite l.order l.rows l.marks
