-- Which positions moves reach.
-- By induction on the moves.
use Rattle.std.proofs.Common.{ℕ, List, IsPermutation}
use Rattle.std.proofs.lemmas.List.Sorted.{IsPermutation-refl, IsPermutation-trans}
use Rattle.misere_theory.specs.Games.{Move, MultisetMove, IsPosition, IsHeap}
use Rattle.misere_theory.specs.Plays.{Reachable}
use Rattle.misere_theory.specs.Plays.Reachable.{Already, After}
use Rattle.misere_theory.proofs.Sums.{move_kept, heaps_kept}
use Rattle.misere_theory.proofs.Shuffles.{from_permutation, position_shuffled, multiset_move_from, move_from_multiset}

pub reached_by_move : (code X Y : List ℕ) → Move code X Y → Reachable code X Y
reached_by_move code X Y m =
    After (multiset_move_from code X Y Y m (IsPermutation-refl Y)) (Already (IsPermutation-refl Y))

-- a move of multisets from the same heaps in another order
moved_from : {code X Y Z : List ℕ} → IsPermutation X Y → MultisetMove code Y Z
    → MultisetMove code X Z
moved_from s (n, H, m) = (
  n,
  H,
  record {
    others = m.others;
    before = IsPermutation-trans _ _ _ s m.before;
    allowed = m.allowed;
    after = m.after;
  },
)

pub from_order : {code X Y Z : List ℕ} → IsPermutation X Y → Reachable code Y Z → Reachable code X Z
from_order s (Already t) = Already (IsPermutation-trans _ _ _ s t)
from_order s (After m r) = After (moved_from s m) r

pub reached_on : {code X Y Z : List ℕ} → Reachable code X Y → Reachable code Y Z
    → Reachable code X Z
reached_on (Already s) r = from_order s r
reached_on (After m q) r = After m (reached_on q r)

multiset_move_kept : {code X Y : List ℕ} → MultisetMove code X Y → IsPosition IsHeap X
    → IsPosition IsHeap Y
multiset_move_kept {code = code} {X = X} {Y = Y} m p =
    let (Z, k, s) = move_from_multiset code X Y m in
    position_shuffled IsHeap (from_permutation Z Y s) (move_kept IsHeap code (heaps_kept code) k p)

pub reached_position : {code X Y : List ℕ} → Reachable code X Y → IsPosition IsHeap X
    → IsPosition IsHeap Y
reached_position (Already s) p = position_shuffled IsHeap (from_permutation _ _ s) p
reached_position (After m r) p = reached_position r (multiset_move_kept m p)
