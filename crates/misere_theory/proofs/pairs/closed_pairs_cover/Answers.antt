use Rattle.misere_theory.proofs.Kept.{all_covered}
use Rattle.misere_theory.proofs.pairs.closed_pairs_cover.Goals as goal

pub returns : goal.returns
returns g M code c k start period kept monoid phi_in ok closed X p =
    all_covered M code c monoid phi_in k start period ok kept closed X p
