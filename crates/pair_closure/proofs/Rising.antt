-- Heaps in their rising order.
-- By insertion: a heap is put before the first that isn't smaller, so that the heaps rise. Lists
-- that rise and have the same heaps are one.
use Rattle.std.proofs.Common.{◌≡◌, ℕ, suc, ◌+◌, ◌<◌, ◌≤◌, true, false, cond, List, [], ◌∷◌, refl, ap, ◌∙◌, arith, nat_lt, ltb-true, ltb-false}
use Rattle.std.specs.List.{insert, prefix_len}
use Rattle.std.specs.List.Sorted.{IsNonDecreasing, IsPermutation}
use Rattle.std.proofs.lemmas.List.Sorted.{IsNonDecreasingBy-insert, IsPermutation-cons, IsPermutation-insert, IsPermutation-refl, IsPermutation-sym, IsPermutation-trans}
use Rattle.std.proofs.lemmas.List.Sums.{prefix_len-le-length, prefix_len_passes, prefix_len_stops}
use Rattle.misere_theory.proofs.RisingLists.{rising_same}
use Rattle.pair_closure.specs.Positions.{put, rising}

-- how many heaps from the first on are smaller
abbrev smaller : ℕ → List ℕ → ℕ
smaller h xs = prefix_len (λ x. nat_lt x h) xs

put_is : (h : ℕ) (xs : List ℕ) → put h xs ≡ insert xs (smaller h xs) h
put_is h [] = refl
put_is h (x ∷ xs) =
    elim (nat_lt x h) as (λ b. cond b (x ∷ put h xs) (h ∷ x ∷ xs)
    ≡ insert (x ∷ xs) (cond b (1 + smaller h xs) 0) h) [
      | true ↦ ap (λ ys. x ∷ ys) (put_is h xs) ∙ ap (λ k. insert (x ∷ xs) k h) (next (smaller h xs))
      | false ↦ refl
    ]
  where
    next : (n : ℕ) → suc n ≡ 1 + n
    next n = omega arith

put_rises : (h : ℕ) (xs : List ℕ) → IsNonDecreasing xs → IsNonDecreasing (put h xs)
put_rises h xs up =
    rw (put_is h xs)
    (IsNonDecreasingBy-insert (λ x. x) xs (smaller h xs) h up
    (prefix_len-le-length (λ x. nat_lt x h) xs)
    (λ k d l. let b = ltb-true _ _ (prefix_len_passes (λ x. nat_lt x h) xs k d l) in omega arith)
    (λ k d l m.
    let b = ltb-false _ _ (prefix_len_stops (λ x. nat_lt x h) xs d (omega arith)) in
    let c = up (smaller h xs) k d l m in
    omega arith))

rising_rises : (xs : List ℕ) → IsNonDecreasing (rising xs)
rising_rises [] = λ i j d l m. absurd (omega arith)
rising_rises (x ∷ xs) = put_rises x (rising xs) (rising_rises xs)

rising_has : (xs : List ℕ) → IsPermutation xs (rising xs)
rising_has [] = IsPermutation-refl []
rising_has (x ∷ xs) =
    IsPermutation-trans (x ∷ xs) (x ∷ rising xs) (put x (rising xs))
    (IsPermutation-cons x xs (rising xs) (rising_has xs))
    (rw (put_is x (rising xs)) (IsPermutation-insert (rising xs) (smaller x (rising xs)) x))

-- of all orders one rises
pub one_rises : (X Y : List ℕ) → IsPermutation X Y → IsNonDecreasing Y → Y ≡ rising X
one_rises X Y s h =
    rising_same Y (rising X) h (rising_rises X)
    (IsPermutation-trans Y X (rising X) (IsPermutation-sym X Y s) (rising_has X))
