use Rattle.presented_tables.proofs.Taking.{power-none, power-more}
use Rattle.presented_tables.proofs.acting.power.Goals as goal

pub loop-init : goal.loop-init
loop-init g c =
    power-none c.args.p.now c.args.e.now c.requires.elements c.args.i c.args.x c.requires.inside

pub loop-preserved : goal.loop-preserved
loop-preserved g c =
    power-more c.args.p.now c.args.e.now c.requires.elements c.args.i c.loop.counter c.args.x c.loop.y
    c.in_ok-y.y c.loop.invariant c.in_ok-y.ensures
