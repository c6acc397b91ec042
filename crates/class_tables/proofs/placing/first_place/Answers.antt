use Rattle.std.proofs.Common.{◌≡◌, subst}
use Rattle.presented_tables.specs.Elements.{place}
use Rattle.presented_tables.proofs.Mapped.{if-some}
use Rattle.class_tables.proofs.placing.first_place.Goals as goal

pub returns : goal.returns
returns g c =
    if-some _ _ c.find.result c.find.ensures
    (λ k at. (at.0, subst (λ w. place c.args.list.now w ≡ k) at.1 (c.requires.each k at.0), at.1))
