use Rattle.misere_theory.proofs.Decided.{holds_or_fails}
use Rattle.misere_theory.proofs.pairs.rule_holds_or_fails_somewhere.Goals as goal

pub returns : goal.returns
returns g M code c k start period monoid phi_in ok =
    holds_or_fails M code c monoid phi_in k start period ok
