use Rattle.descriptions.proofs.TameMonoids.{one-monoid, one-number}
use Rattle.descriptions.proofs.laws.tame_quotients_are_unique.Goals as goal

pub returns-clause-monoid : goal.returns-clause-monoid
returns-clause-monoid g n c d r s =
    one-monoid n c d (g.claims_agree.ensures.agrees c r) (g.claims_agree.ensures.agrees d s)

pub returns-clause-number : goal.returns-clause-number
returns-clause-number g = one-number
