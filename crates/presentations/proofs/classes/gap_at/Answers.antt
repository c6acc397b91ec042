use Rattle.std.proofs.Common.{arith}
use Rattle.presentations.proofs.Merges.{step, gap-from}
use Rattle.presentations.proofs.classes.gap_at.Goals as goal

pub returns-then-x-y-clause-gap : goal.returns-then-x-y-clause-gap
returns-then-x-y-clause-gap g c =
    gap-from c.requires.firsts c.next-u.ensures.within c.next-v.ensures.within
    c.parent-x.ensures.value c.parent-y.ensures.value c.parent-x.ensures.down
    c.parent-y.ensures.down c.parent-x.ensures.related c.parent-y.ensures.related
    (rw (c.next-u.ensures.value, c.next-v.ensures.value)
    (step c.args.at c.parent-first.result c.loop-i.i c.is_box.ensures.is_box (omega arith) c.parent-first.ensures.related))
    c.if-x-y.true
