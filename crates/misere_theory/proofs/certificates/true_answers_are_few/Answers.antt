use Rattle.misere_theory.proofs.Verdicts.{yes_or_limit, outcome_or_limit, fault_alone, never_past_all_pairs}
use Rattle.misere_theory.proofs.certificates.true_answers_are_few.Goals as goal

pub returns : goal.returns
returns g = record {
  accepted = λ c limit answer a h. yes_or_limit c a limit answer h;
  wrong = λ c limit answer r m k not h. outcome_or_limit c r m k not limit answer h;
  faulty = λ c fault limit other answer r h a. fault_alone c r fault limit other answer h a;
  within = λ c limit r l h. never_past_all_pairs c r limit l h;
}
