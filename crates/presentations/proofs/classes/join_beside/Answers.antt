use Rattle.std.proofs.Common.{ap, arith, length}
use Rattle.presentations.proofs.Merges.{step}
use Rattle.presentations.proofs.classes.join_beside.Goals as goal

pub join-requires-clause-related : goal.join-requires-clause-related
join-requires-clause-related g c =
    let kept = c.loop-i.invariant in
    rw (c.next-x.ensures.value, c.next-y.ensures.value)
    (step c.args.u c.args.v c.loop-i.i c.is_box.ensures.is_box
    (omega (arith, ap (λ axes. length axes) kept.axes))
    (rw (← kept.axes, ← kept.relations) at c.requires.related))
