use Rattle.misere_theory.specs.Kinds.{IsHeapIn}
use Rattle.misere_theory.proofs.Counting.{kept_in}
use Rattle.misere_theory.proofs.Rules.{predicts_from_rule, rule_from_predicts, rule_decided, rule_not_both}
use Rattle.misere_theory.proofs.quotients.rule_predicts.Goals as goal

pub returns : goal.returns
returns g = record {
  rule = λ M code c. predicts_from_rule (IsHeapIn M) code c (kept_in M code);
  back = λ M code c. rule_from_predicts (IsHeapIn M) code c (kept_in M code);
  decided = rule_decided;
  fails = rule_not_both;
}
