-- If a move wins, one wins that is listed.
use Rattle.std.proofs.Common.{◌≡◌, ℕ, ◌≤◌, ◌<◌, Bool, true, false, List, [], ◌∷◌, ◌++◌, refl, sym, ◌∙◌, ap, subst, arith}
use Rattle.std.specs.List.Sorted.{IsNonDecreasing}
use Rattle.std.proofs.lemmas.Bool.{false_from_ne_true}
use Rattle.std.proofs.lemmas.Bool.Decides.{nat_tests}
use Rattle.misere_theory.specs.Games.{HeapOption, IsHeap, IsP, IsPosition}
use Rattle.misere_theory.specs.Pairs.{IsSmallSplit}
use Rattle.misere_theory.proofs.InOrder.{put_in_order}
use Rattle.misere_theory.proofs.Outcomes.{not_both}
use Rattle.misere_theory.proofs.Shuffles.{Shuffled, back, beside, to_permutation, position_shuffled, move_from_multiset}
use Rattle.misere_theory.proofs.Shuffles.Shuffled.{Same, Under, Flip, Then}
use Rattle.misere_theory.proofs.Sums.{IsPosition-append, heaps_kept}
use Rattle.misere_theory.proofs.Wins.{wins_at_n}
use Rattle.dominance.specs.Triples.{Triple}
use Rattle.dominance.specs.Tested.{State, AreTested}
use Rattle.dominance.specs.Finite.{heaps_from, is_listed, HasSmallWins}
use Rattle.dominance.proofs.Tested.{says, leads, predicts}

from_shuffled : (start : ℕ) {X Y : List ℕ} → Shuffled X Y → heaps_from start X ≡ heaps_from start Y
from_shuffled start Same = refl
from_shuffled start (Under s) = let e = from_shuffled start s in omega arith
from_shuffled start Flip = omega arith
from_shuffled start (Then s t) = from_shuffled start s ∙ from_shuffled start t

listed_few : (start : ℕ) (H : List ℕ) → is_listed start H ≡ true → heaps_from start H ≤ 1
listed_few start H e = grind (arith, nat_tests)

-- where the parts rise, all but the largest are below the start
two_small : (start a b : ℕ) → a ≤ b → heaps_from start (a ∷ b ∷ []) ≤ 1 → a < start
two_small start a b l h = grind (arith, nat_tests)

three_small : (start a b c : ℕ) → a ≤ b → b ≤ c → heaps_from start (a ∷ b ∷ c ∷ []) ≤ 1 → b < start
three_small start a b c l m h = grind (arith, nat_tests)

small : (start : ℕ) {code : List ℕ} {n : ℕ} (H : List ℕ) → HeapOption code n H → IsNonDecreasing H
    → heaps_from start H ≤ 1 → IsSmallSplit start H
small start [] o w h = tt
small start (a ∷ []) o w h = tt
small start (a ∷ b ∷ []) o w h =
    let l = w 0 1 0 (omega arith) (omega arith) in (l, two_small start a b l h)
small start (a ∷ b ∷ c ∷ []) o w h =
    let l = w 0 1 0 (omega arith) (omega arith) in
    let m = w 1 2 0 (omega arith) (omega arith) in
    let s = three_small start a b c l m h in
    (l, m, omega arith, s)
small start (a ∷ b ∷ c ∷ d ∷ H) o w h = elim o [ ]

module _ (code : List ℕ) (start : ℕ) (label : ℕ → Triple) (kinds kept : List State)
    (tested : AreTested code (is_listed start) label kinds kept) where
  pub small_wins : HasSmallWins code start
  small_wins X p n H w =
      let right = predicts code (is_listed start) label kinds kept tested in
      let f = false_from_ne_true (says code (is_listed start) label kinds kept tested X)
      (λ e. not_both ((right X p).1 e) (wins_at_n code X n H w)) in
      let (Z, m, _) = move_from_multiset code X w.1.0 (n, H, w.1.1) in
      let (W, (k, R, L, s, o, l, t), e) = leads code (is_listed start) label kinds kept tested X p f Z m in
      let (K, i, ordered, u) = put_in_order o in
      let q = position_shuffled IsHeap s p in
      let made = position_shuffled IsHeap (back t)
      (IsPosition-append IsHeap L R (heaps_kept code k L q.0 o) q.1) in
      let few : heaps_from start K ≤ 1 = (let c = from_shuffled start u in let d = listed_few start L l in omega arith) in (
        k,
        K,
        (
          ordered,
          (
            W,
            record {
              others = R;
              before = to_permutation s;
              allowed = i;
              after = to_permutation (Then t (beside u R));
            },
            (right W made).1 e,
          ),
        ),
        small start K i ordered few,
      )
