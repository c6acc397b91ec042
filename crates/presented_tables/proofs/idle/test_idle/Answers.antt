use Rattle.presented_tables.specs.Tested.{IsOneIfIdle}
use Rattle.presented_tables.proofs.Below.{below}
use Rattle.presented_tables.proofs.idle.test_idle.Goals as goal

pub loop-n-preserved : goal.loop-n-preserved
loop-n-preserved g c =
    below (λ m. IsOneIfIdle c.args.p.now m) c.loop-n.n c.loop-n.invariant c.in_ok-test.ensures.one
