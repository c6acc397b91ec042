use Rattle.std.proofs.Common.{◌≡◌, true}
use Rattle.misere_theory.specs.Kinds.{IsHeapIn}
use Rattle.misere_theory.proofs.Counting.{kept_in}
use Rattle.misere_theory.proofs.LocalRule.{obeyed_where_right, not_obeyed_and_broken, obeyed_or_broken, right_by_rule, rule_of_right}
use Rattle.misere_theory.proofs.labels.obeyed_rules_predict.Goals as goal

pub returns : goal.returns
returns g = record {
  right = λ code heaps says part rule. right_by_rule (λ n. heaps n ≡ true) code part says rule;
  whole = λ M code says rule. right_by_rule (IsHeapIn M) code (kept_in M code) says rule;
  back = λ M code says right. rule_of_right (IsHeapIn M) code (kept_in M code) says right;
  either = obeyed_or_broken;
  never_both = not_obeyed_and_broken;
  wrong = λ code says X b here there.
      not_obeyed_and_broken code says X (obeyed_where_right code says X there here) b;
}
