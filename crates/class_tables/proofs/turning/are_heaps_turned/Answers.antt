use Rattle.std.proofs.Common.{refl, arith}
use Rattle.presented_tables.proofs.Below.{below}
use Rattle.class_tables.specs.Turns.{IsTurned}
use Rattle.class_tables.proofs.turning.are_heaps_turned.Goals as goal

pub loop-g-preserved : goal.loop-g-preserved
loop-g-preserved g c =
    below (IsTurned c.args.p.now c.args.l.now c.args.s.now c.args.f.now c.args.t.now c.args.u.now c.args.k) c.loop-g.g
    c.loop-g.invariant (c.if-not-is_turned.ensures refl)

pub returns : goal.returns
returns g c = λ _ h lt. c.loop-g.invariant h (grind arith)
