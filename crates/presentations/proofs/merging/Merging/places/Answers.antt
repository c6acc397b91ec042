use Rattle.std.proofs.Common.{ap, arith, length}
use Rattle.presentations.proofs.Merges.{relation, no_relation}
use Rattle.presentations.proofs.merging.Merging.places.Goals as goal

pub returns-clause-related : goal.returns-clause-related
returns-clause-related g c =
    rw (← c.self.view_is, c.place.ensures.value, c.place-2.ensures.value)
    (relation c.args.i no_relation c.self.invariant.box
    (omega (arith, ap (λ s. length s.relations) c.self.view_is)))
