use Rattle.misere_theory.specs.Kinds.{IsHeapIn}
use Rattle.misere_theory.proofs.Counting.{kept_in}
use Rattle.misere_theory.proofs.Kept.{rule_everywhere}
use Rattle.misere_theory.proofs.Rules.{predicts_from_rule, represents}
use Rattle.misere_theory.proofs.pairs.closed_pairs_represent.Goals as goal

pub returns : goal.returns
returns g M code c k start period kept monoid phi_in ok closed members elements reached apart =
    represents (IsHeapIn M) code c monoid phi_in
    (predicts_from_rule (IsHeapIn M) code c (kept_in M code)
    (rule_everywhere M code c monoid phi_in k start period ok kept closed members elements))
    reached apart
