use Rattle.std.proofs.Common.{inr, refl, rules}
use Rattle.guesses.proofs.guess.period_of.Goals as goal

pub returns-in-None : goal.returns-in-None
returns-in-None c = inr (c.in-None.ensures.none.0 (search rules), refl, refl)
