use Rattle.misere_theory.specs.Games.{IsHeap}
use Rattle.misere_theory.proofs.Shuffles.{multiset_move_from, move_from_multiset, p_shuffled, value_shuffled, from_permutation}
use Rattle.misere_theory.proofs.games.order_does_not_matter.Goals as goal

pub returns : goal.returns
returns g = record {
  moves = multiset_move_from;
  back = move_from_multiset;
  outcome = λ code X Y s p. p_shuffled p (from_permutation X Y s);
  value = λ c X Y monoid phi_in p s. value_shuffled IsHeap c monoid phi_in (from_permutation X Y s) p;
}
