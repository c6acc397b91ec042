use Rattle.misere_theory.specs.Games.{IsHeapUpTo}
use Rattle.misere_theory.proofs.Sums.{heaps_up_to_kept}
use Rattle.misere_theory.proofs.Rules.{predicts_from_rule, represents}
use Rattle.misere_theory.proofs.quotients.rule_represents_partly.Goals as goal

pub returns : goal.returns
returns g M code c monoid phi_in rule reached apart =
    represents (IsHeapUpTo M) code c monoid phi_in
    (predicts_from_rule (IsHeapUpTo M) code c (heaps_up_to_kept M code) rule) reached apart
