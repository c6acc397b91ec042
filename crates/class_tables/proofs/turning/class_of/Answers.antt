use Rattle.std.proofs.Common.{subst, sym}
use Rattle.class_tables.specs.Tables.{ClassLists}
use Rattle.class_tables.specs.Turns.{AreFirsts}
use Rattle.class_tables.proofs.turning.class_of.Goals as goal

pub first_place-requires : goal.first_place-requires
first_place-requires g c = subst (λ (v : ClassLists). AreFirsts v.classes) (sym c.l.view_is) c.requires
