use Rattle.std.proofs.Common.{refl, subst}
use Rattle.class_tables.specs.Tables.{ClassLists}
use Rattle.class_tables.specs.Turns.{AreFirsts}
use Rattle.class_tables.proofs.turning.turns_of.Goals as goal

pub made-requires-clause-firsts : goal.made-requires-clause-firsts
made-requires-clause-firsts g c =
    subst (λ (v : ClassLists). AreFirsts v.classes) c.l.view_is (c.if-not-are_firsts.ensures refl)

pub are_turned-requires-clause-firsts : goal.are_turned-requires-clause-firsts
are_turned-requires-clause-firsts g c =
    subst (λ (v : ClassLists). AreFirsts v.classes) c.l.view_is (c.if-not-are_firsts.ensures refl)
