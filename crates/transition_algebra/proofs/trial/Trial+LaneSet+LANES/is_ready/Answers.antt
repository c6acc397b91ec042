use Rattle.transition_algebra.proofs.Ready.{ready}
use Rattle.transition_algebra.proofs.trial.Trial+LaneSet+LANES.is_ready.Goals as goal

pub returns : goal.returns
returns g c =
    ready c.args.scene.now.code.now c.args.scene.now.table.now c.is_monoid.ensures.monoid c.args.scene.now.phi.now
    c.is_pretending.ensures c.args.scene.now.into c.args.self.now c.args.pairs.now.items c.requires.trial
    c.is_code.ensures.code c.requires.going
