use Rattle.isomorphisms.proofs.forcing.spread_all.Goals as goal

pub returns-then-clash-clause-clash : goal.returns-then-clash-clause-clash
returns-then-clash-clause-clash g c = λ t. c.in_ok-clash.ensures.clash c.if-clash.true
