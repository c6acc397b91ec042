use Rattle.std.proofs.Common.{◌≡◌, subst}
use Rattle.presented_tables.specs.Elements.{place}
use Rattle.class_tables.proofs.placing.is_first_at.Goals as goal

pub returns-in-Some : goal.returns-in-Some
returns-in-Some g c = λ t.
    subst (λ w. place c.args.list.now w ≡ c.args.k) c.in-Some.ensures.1 (c.is_first_place.ensures t)
