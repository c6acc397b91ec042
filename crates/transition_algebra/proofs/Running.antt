-- A run of turns leaves a trial that the turns reached.
-- So many turns at once, or none and a stage less of the heap in hand.
use Rattle.std.proofs.Common.{◌≡◌, ℕ, ◌+◌, ◌<◌, ◌≤◌, ◌⊎◌, List, [], ◌∷◌, ◌++◌, length, refl, sym, ◌∙◌, ap, arith}
use Rattle.std.specs.FinSet as set
use Rattle.std.specs.Ordering.{nat_cmp}
use Rattle.monoid_table.specs.Grids.{Grid}
use Rattle.heap_options.specs.Walks.{left_at, stages_left}
use Rattle.heap_options.specs.declared.left.Left.{Left}
use Rattle.monoid_table.specs.Pretending.{Pretending}
use Rattle.transition_algebra.specs.Heaps.{bound_of, largest_part, left_value}
use Rattle.transition_algebra.specs.Work.{opening, turns, heap_cost}
use Rattle.transition_algebra.specs.Trials.{with_left, IsUntried, trying_of, IsTrial, IsRun}
use Rattle.transition_algebra.specs.OverSets.{Pair, Trial}
use Rattle.transition_algebra.proofs.Cost.{left_after}
use Rattle.transition_algebra.proofs.Turning.{left, left_some, left_over, turns-add, one_turn}

module _ (code : List ℕ) (table : Grid) (phi : Pretending) where
  -- the turns that a trial may still make
  pub room : (t : Trial) (pairs : List Pair) → IsTrial code table phi t pairs
      → t.walk.heap ≤ bound_of code phi
      → t.spent + length (left_at code t.walk.heap (largest_part phi) t.walk.away t.walk.untried)
      + 1
      ≤ heap_cost code phi
  room t pairs is l =
      let a = left_some code table phi (trying_of code table phi t pairs) l in
      let b = ap (left code phi) is.reached ∙ left_after code table phi t.spent in
      omega arith

  -- past the bound all turns were made
  pub all_spent : (t : Trial) (pairs : List Pair) → IsTrial code table phi t pairs
      → bound_of code phi < t.walk.heap → t.spent ≡ heap_cost code phi
  all_spent t pairs is l =
      let a = left_over code table phi (trying_of code table phi t pairs) l in
      let b = ap (left code phi) is.reached ∙ left_after code table phi t.spent in
      let w = is.within in
      omega arith

  -- turns were made, or none and a stage less is left
  pub moved_on : (s t : Trial) (ps qs : List Pair) (units n : ℕ) → IsTrial code table phi s ps
      → s.walk.heap ≤ bound_of code phi
      → trying_of code table phi t qs ≡ turns code table phi n (trying_of code table phi s ps)
      → t.spent ≡ s.spent + n
      → n ≤ length (left_at code s.walk.heap (largest_part phi) s.walk.away s.walk.untried) + 1
      → t.bound ≡ s.bound → t.walk.most ≡ s.walk.most → t.walk.away ≤ length code
      → IsUntried code t.walk.heap (largest_part phi) t.walk.away t.walk.untried
      → n ≤ units
      → (1 ≤ n) ⊎ (stages_left code t.walk < stages_left code s.walk)
      → t.walk.heap ≤ s.walk.heap + 1
      → IsRun code table phi s t qs units n
  moved_on s t ps qs units n is going e spent few bound most away stage at_most falls heap = record {
    at_most = at_most;
    trial = record {
      bound_is = bound ∙ is.bound_is;
      some = let b = is.some in omega arith;
      most_is = most ∙ is.most_is;
      away_in = away;
      untried_in = stage;
      within = let r = room s ps is going in omega arith;
      reached = e ∙ ap (turns code table phi n) is.reached
          ∙ sym (turns-add code table phi s.spent n (opening code phi))
          ∙ ap (λ m. turns code table phi m (opening code phi)) (sym spent);
    };
    spent_is = spent;
    falls = falls;
    heap = heap;
  }

  -- so many options
  pub list_turns : (n : ℕ) (seen : set.FinSet nat_cmp) (pairs : List Pair)
      (xs coming rest : List Left)
      → n ≤ bound_of code phi → coming ≡ xs ++ rest
      → record { heap = n; coming = rest; seen = with_left table phi seen xs; pairs = pairs }
      ≡ turns code table phi (length xs)
      (record { heap = n; coming = coming; seen = seen; pairs = pairs })
  unfolding turns with_left
  list_turns n seen pairs [] coming rest l e =
      ap (λ ys. record { heap = n; coming = ys; seen = seen; pairs = pairs }) (sym e)
  list_turns n seen pairs (x ∷ xs) coming rest l e =
      list_turns n (set.insert seen (left_value table phi x)) pairs xs (xs ++ rest) rest l refl
      ∙ ap (turns code table phi (length xs))
      (one_turn code table phi (record { heap = n; coming = coming; seen = seen; pairs = pairs }) x
      (xs ++ rest) (left_value table phi x) l e refl)
