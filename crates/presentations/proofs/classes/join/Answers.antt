use Rattle.presentations.specs.Congruences.Related.{Turned, Chained}
use Rattle.presentations.proofs.classes.join.Goals as goal

pub link-requires-clause-related : goal.link-requires-clause-related
link-requires-clause-related g c =
    let one = c.first_of-x.ensures in
    let two = c.first_of-y.ensures in
    rw (two.kept.axes, two.kept.relations, one.kept.axes, one.kept.relations)
    (Chained _ _ _ (Turned _ _ one.related)
    (Chained _ _ _ c.requires.related (rw (one.kept.axes, one.kept.relations) at two.related)))
