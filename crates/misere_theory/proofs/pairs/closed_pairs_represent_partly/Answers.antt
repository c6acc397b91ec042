use Rattle.misere_theory.specs.Games.{IsHeapUpTo}
use Rattle.misere_theory.proofs.Sums.{heaps_up_to_kept}
use Rattle.misere_theory.proofs.Kept.{rule_up_to}
use Rattle.misere_theory.proofs.Rules.{predicts_from_rule, represents}
use Rattle.misere_theory.proofs.pairs.closed_pairs_represent_partly.Goals as goal

pub returns : goal.returns
returns g M code c kept monoid phi_in closed members elements reached apart =
    represents (IsHeapUpTo M) code c monoid phi_in
    (predicts_from_rule (IsHeapUpTo M) code c (heaps_up_to_kept M code)
    (rule_up_to M code c monoid phi_in kept closed members elements))
    reached apart
