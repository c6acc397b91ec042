-- The order of a position's heaps does not matter.
-- By induction on how one order is made from the other, by exchanges of neighbours.
use Rattle.std.proofs.Common.{◌≡◌, ℕ, suc, zero, ◌<◌, List, [], ◌∷◌, ◌++◌, refl, sym, ◌∙◌, ap, inl, inr, IsPermutation, swap, length, get_or, set, not-suc-le-zero, le_of_suc-le-suc}
use Rattle.std.proofs.lemmas.List.Sorted.{IsPermutation-keeps, IsPermutation-refl, IsPermutation-sym, IsPermutation-cons, IsPermutation-trans, IsPermutation-middle}
use Rattle.misere_theory.specs.Games.{HeapOption, Move, MultisetMove, IsP, IsN, IsPosition}
use Rattle.misere_theory.specs.Games.Move.{Here, There}
use Rattle.misere_theory.specs.Games.IsP.{AllLose}
use Rattle.misere_theory.specs.Games.IsN.{Ended, Wins}
use Rattle.misere_theory.specs.Quotients.{Claim, Monoid, GivesElements, value}
use Rattle.misere_theory.proofs.Sums.{first_or_rest, value_in}

-- one list is the other in another order, by rules that an induction can follow
pub data Shuffled : List ℕ → List ℕ → Type 0 where
  Same : {X : List ℕ} → Shuffled X X
  Under : {n : ℕ} {X Y : List ℕ} → Shuffled X Y → Shuffled (n ∷ X) (n ∷ Y)
  Flip : {a b : ℕ} {X : List ℕ} → Shuffled (a ∷ b ∷ X) (b ∷ a ∷ X)
  Then : {X Y Z : List ℕ} → Shuffled X Y → Shuffled Y Z → Shuffled X Z

pub back : {X Y : List ℕ} → Shuffled X Y → Shuffled Y X
back Same = Same
back (Under s) = Under (back s)
back Flip = Flip
back (Then s t) = Then (back t) (back s)

pub behind : (H X Y : List ℕ) → Shuffled X Y → Shuffled (H ++ X) (H ++ Y)
behind [] X Y s = s
behind (h ∷ H) X Y s = Under (behind H X Y s)

pub beside : {H L : List ℕ} → Shuffled H L → (X : List ℕ) → Shuffled (H ++ X) (L ++ X)
beside Same X = Same
beside (Under s) X = Under (beside s X)
beside Flip X = Flip
beside (Then s t) X = Then (beside s X) (beside t X)

pub to_front : (H : List ℕ) (n : ℕ) (X : List ℕ) → Shuffled (H ++ n ∷ X) (n ∷ (H ++ X))
to_front [] n X = Same
to_front (h ∷ H) n X = Then (Under (to_front H n X)) Flip

exchanged : (d x : ℕ) (xs : List ℕ) (k : ℕ) → k < length xs
    → Shuffled (x ∷ xs) (get_or xs k d ∷ set xs k x)
exchanged d x [] k h = absurd (not-suc-le-zero h)
exchanged d x (y ∷ ys) zero h = Flip
exchanged d x (y ∷ ys) (suc k) h =
    Then Flip (Then (Under (exchanged d x ys k (le_of_suc-le-suc h))) Flip)

swapped : (d : ℕ) (xs : List ℕ) (i j : ℕ) → i < length xs → j < length xs
    → Shuffled xs (set (set xs i (get_or xs j d)) j (get_or xs i d))
swapped d [] i j p q = absurd (not-suc-le-zero p)
swapped d (x ∷ xs) zero zero p q = Same
swapped d (x ∷ xs) zero (suc j) p q = exchanged d x xs j (le_of_suc-le-suc q)
swapped d (x ∷ xs) (suc i) zero p q = exchanged d x xs i (le_of_suc-le-suc p)
swapped d (x ∷ xs) (suc i) (suc j) p q =
    Under (swapped d xs i j (le_of_suc-le-suc p) (le_of_suc-le-suc q))

pub from_permutation : (X Y : List ℕ) → IsPermutation X Y → Shuffled X Y
from_permutation X Y h = IsPermutation-keeps X (λ Z. Shuffled X Z) Same step Y h
  where
    step : (l : List ℕ) (i j : ℕ) → i < length l → j < length l → Shuffled X l
        → Shuffled X (swap l i j)
    step [] i j p q s = s
    step (x ∷ xs) i j p q s = Then s (swapped x (x ∷ xs) i j p q)

pub to_permutation : {X Y : List ℕ} → Shuffled X Y → IsPermutation X Y
to_permutation (Same {X = X}) = IsPermutation-refl X
to_permutation (Under s) = IsPermutation-cons _ _ _ (to_permutation s)
to_permutation (Flip {a = a} {b = b} {X = X}) = IsPermutation-middle (a ∷ []) b X
to_permutation (Then s t) = IsPermutation-trans _ _ _ (to_permutation s) (to_permutation t)

-- a move is a move in any order of the heaps
pub move_shuffled : {code X Y Z : List ℕ} → Shuffled X Y → Move code X Z
    → (W : List ℕ) × Move code Y W × Shuffled Z W
move_shuffled {Z = Z} Same m = (Z, m, Same)
move_shuffled (Under {n = n} {X = X} {Y = Y} s) m = elim (first_or_rest m) [
  | inl (H, o, e) ↦ (H ++ Y, Here o refl, rw e (behind H X Y s))
  | inr (R, k, e) ↦ let (W, i, t) = move_shuffled s k in (n ∷ W, There i refl, rw e (Under t))
]
move_shuffled (Flip {a = a} {b = b} {X = X}) m = elim (first_or_rest m) [
  | inl (H, o, e) ↦ (b ∷ (H ++ X), There (Here o refl) refl, rw e (to_front H b X))
  | inr (R, k, e) ↦ elim (first_or_rest k) [
    | inl (H, o, f) ↦ (H ++ a ∷ X, Here o refl, rw (e, f) (back (to_front H a X)))
    | inr (S, i, f) ↦ (b ∷ a ∷ S, There (There i refl) refl, rw (e, f) Flip)
  ]
]
move_shuffled (Then s t) m =
    let (V, k, u) = move_shuffled s m in
    let (W, i, v) = move_shuffled t k in
    (W, i, Then u v)

-- the outcome does not depend on the order
mutual
  pub p_shuffled : {code X Y : List ℕ} → IsP code X → Shuffled X Y → IsP code Y
  p_shuffled (AllLose m all) s = let (W, k, t) = move_shuffled s m in
      AllLose k (λ Z i. let (V, j, u) = move_shuffled (back s) i in n_shuffled (all V j) (back u))

  pub n_shuffled : {code X Y : List ℕ} → IsN code X → Shuffled X Y → IsN code Y
  n_shuffled (Ended none) s = Ended (λ Z i. let (V, j, u) = move_shuffled (back s) i in none V j)
  n_shuffled (Wins m p) s = let (W, k, t) = move_shuffled s m in Wins k (p_shuffled p t)

pub position_shuffled : (heap : ℕ → Type 0) {X Y : List ℕ} → Shuffled X Y → IsPosition heap X
    → IsPosition heap Y
position_shuffled heap Same p = p
position_shuffled heap (Under s) p = (p.0, position_shuffled heap s p.1)
position_shuffled heap Flip p = (p.1.0, (p.0, p.1.1))
position_shuffled heap (Then s t) p = position_shuffled heap t (position_shuffled heap s p)

-- nor does the value
module _ (heap : ℕ → Type 0) (c : Claim) (m : Monoid c.order c.times)
    (phi_in : GivesElements heap c) where
  pub value_shuffled : {X Y : List ℕ} → Shuffled X Y → IsPosition heap X → value c X ≡ value c Y
  value_shuffled Same p = refl
  value_shuffled (Under {n = n} s) p = ap (c.times (c.phi n)) (value_shuffled s p.1)
  value_shuffled (Flip {a = a} {b = b} {X = X}) p =
      sym (m.associates _ _ _ (phi_in a p.0) (phi_in b p.1.0) (value_in heap c m phi_in X p.1.1))
      ∙ ap (λ v. c.times v (value c X)) (m.commutes _ _ (phi_in a p.0) (phi_in b p.1.0))
      ∙ m.associates _ _ _ (phi_in b p.1.0) (phi_in a p.0) (value_in heap c m phi_in X p.1.1)
  value_shuffled (Then s t) p = value_shuffled s p ∙ value_shuffled t (position_shuffled heap s p)

pub one_heap_moves : {code X Y : List ℕ} → Move code X Y
    → (n : ℕ) × (R : List ℕ) × (H : List ℕ) × Shuffled X (n ∷ R) × HeapOption code n H
    × Shuffled Y (H ++ R)
one_heap_moves (Here {n = n} {X = X} {H = H} o e) = (n, X, H, Same, o, rw e Same)
one_heap_moves (There {n = b} m e) = let (n, R, H, s, o, t) = one_heap_moves m in
    (n, b ∷ R, H, Then (Under s) Flip, o, rw e (Then (Under t) (back (to_front H b R))))

pub multiset_move_from : (code X Y Z : List ℕ) → Move code X Y → IsPermutation Y Z
    → MultisetMove code X Z
multiset_move_from code X Y Z m h =
    let (n, R, H, s, o, t) = one_heap_moves m in (
      n,
      H,
      record {
        others = R;
        before = to_permutation s;
        allowed = o;
        after = IsPermutation-trans _ _ _ (IsPermutation-sym _ _ h) (to_permutation t);
      },
    )

pub move_from_multiset : (code X Z : List ℕ) → MultisetMove code X Z → (Y : List ℕ) × Move code X Y
    × IsPermutation Y Z
move_from_multiset code X Z w =
    let (n, H, one) = w in
    let (Y, m, u) =
    move_shuffled (back (from_permutation X (n ∷ one.others) one.before))
    (Here one.allowed refl) in (
      Y,
      m,
      IsPermutation-trans _ _ _ (IsPermutation-sym _ _ (to_permutation u))
          (IsPermutation-sym _ _ one.after),
    )
