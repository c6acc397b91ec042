use Rattle.std.proofs.Common.{arith}
use Rattle.presented_tables.proofs.Taking.{letters-none, letters-more, letters-all}
use Rattle.presented_tables.proofs.acting.act.Goals as goal

pub loop-i-init : goal.loop-i-init
loop-i-init g c =
    letters-none c.args.p.now c.args.e.now c.requires.elements c.args.word.now c.args.x c.told-word
    c.requires.inside

pub loop-i-preserved : goal.loop-i-preserved
loop-i-preserved g c =
    letters-more c.args.p.now c.args.e.now c.requires.elements c.args.word.now c.loop-i.i c.args.x
    c.loop-i.y c.in_ok-y.y c.told-word c.loop-i-test.true c.loop-i.invariant c.in_ok-y.ensures

pub returns : goal.returns
returns g c =
    letters-all c.args.p.now c.args.e.now c.requires.elements c.args.word.now c.loop-i.i c.args.x
    c.loop-i.y c.told-word (omega (arith, c.loop-i-test.false)) c.loop-i.invariant
