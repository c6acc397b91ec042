use Rattle.misere_theory.proofs.Monoids.{monoid_from_no_failure}
use Rattle.misere_theory.proofs.quotients.laws_fail_or_hold.Goals as goal

pub returns-clause-no_failure : goal.returns-clause-no_failure
returns-clause-no_failure g = monoid_from_no_failure
