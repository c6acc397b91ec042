use Rattle.infinite_library.proofs.solving.said_of.Goals as goal

pub returns-then-presented-clause-says : goal.returns-then-presented-clause-says
returns-then-presented-clause-says c = rw c.if-presented.true c.present_infinite_bytes.ensures.says

pub returns-else-presented-clause-says : goal.returns-else-presented-clause-says
returns-else-presented-clause-says c = rw c.if-presented.false c.solve_infinite_bytes.ensures.says
