use Rattle.misere_theory.specs.Kinds.{IsHeapIn}
use Rattle.misere_theory.proofs.Counting.{kept_in}
use Rattle.misere_theory.proofs.Refusals.{fails_outside, fails_inside, fails_by_element}
use Rattle.misere_theory.proofs.pairs.failed_tests_show_positions.Goals as goal

pub returns : goal.returns
returns g = record {
  outside = λ M code c p X w exact out x h none. (w, fails_outside code c p X exact out x h none);
  inside = λ M code c p X w exact is_in none. (w, fails_inside code c p X exact is_in none);
  element = λ M code c n h Y monoid phi_in p o t u.
      (p, fails_by_element (IsHeapIn M) code (kept_in M code) c monoid phi_in n h Y p o t u);
}
