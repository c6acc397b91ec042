use Rattle.transition_algebra.proofs.Turning.{turns-add}
use Rattle.transition_algebra.proofs.laws.cuts_do_not_matter.Goals as goal

pub returns-clause-turns : goal.returns-clause-turns
returns-clause-turns g = turns-add
