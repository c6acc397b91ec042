use Rattle.std.proofs.Common.{refl, arith}
use Rattle.presented_tables.specs.Tested.{IsOneIfIdle}
use Rattle.presented_tables.proofs.Below.{below}
use Rattle.class_tables.proofs.tables.are_ones_if_idle.Goals as goal

pub loop-n-preserved : goal.loop-n-preserved
loop-n-preserved g c =
    below (IsOneIfIdle c.args.p.now) c.loop-n.n c.loop-n.invariant (c.if-not-is_one_if_idle.ensures refl)

pub returns : goal.returns
returns g c = λ _ n h. c.loop-n.invariant n (grind arith)
