use Rattle.std.proofs.lemmas.List.Sorted.{IsPermutation-insert}
use Rattle.positions.proofs.Heaps.{inserted}
use Rattle.positions.proofs.position.Position.push.Goals as goal

pub invariant_of-self-2 : goal.invariant_of-self-2
invariant_of-self-2 g c = rw c.in_ok-insert.ensures.ok (
    inserted c.self.inside.heaps.items c.place_for-at.result c.args.heap c.self.invariant c.requires
    (rw (← c.as_slice.ensures) c.place_for-at.ensures.within)
    (rw (← c.as_slice.ensures) c.place_for-at.ensures.before)
    (rw (← c.as_slice.ensures) c.place_for-at.ensures.after)
    )

pub returns-clause-ok : goal.returns-clause-ok
returns-clause-ok g c =
    rw (c.in_ok-insert.ensures.ok, ← c.self.view_is) (IsPermutation-insert _ _ _)
