use Rattle.transition_algebra.proofs.Finished.{new_trial}
use Rattle.transition_algebra.proofs.trial.Trial+LaneSet+LANES.new.Goals as goal

pub returns-clause-trial : goal.returns-clause-trial
returns-clause-trial g c =
    λ table. new_trial c.args.code.now table c.args.phi.now c.bound_of.result c.largest_part.result
    c.new-walk.result c.new.result c.bound_of.ensures.value c.bound_of.ensures.some c.largest_part.ensures
    c.new-walk.ensures c.new.ensures
