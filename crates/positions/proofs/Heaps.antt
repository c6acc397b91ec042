-- What keeps a position's heaps in order and in their range.
use Rattle.std.proofs.Common.{ℕ, ◌+◌, ◌<◌, ◌≤◌, List, ◌∷◌, ◌++◌, length, get_or, subst, sym, arith, All}
use Rattle.std.specs.List.{insert, remove}
use Rattle.std.specs.List.Sorted.{IsNonDecreasing, IsPermutation}
use Rattle.std.proofs.lemmas.List.{get_or_default}
use Rattle.std.proofs.lemmas.List.Edits.{length-remove, get_or-remove_below, get_or-remove_above}
use Rattle.std.proofs.lemmas.List.Elements.{All-append, All-cons}
use Rattle.std.proofs.lemmas.List.Sorted.{All-permutation, IsNonDecreasingBy-insert, IsPermutation-insert}
use native.Mathlib.Decide.{dec_le}
use Rattle.heap_options.specs.Exact.{heaps_of}
use Rattle.positions.specs.Positions.{IsSize}
use Rattle.heap_options.specs.declared.left.Left.{Left}

-- a heap that goes where no larger one stands before it and no smaller one after it
pub placed : (xs : List ℕ) (i y : ℕ) → IsNonDecreasing xs → i ≤ length xs
    → ((k : ℕ) → k < i → get_or xs k 0 ≤ y) → ((k : ℕ) → i ≤ k → k < length xs → y ≤ get_or xs k 0)
    → IsNonDecreasing (insert xs i y)
placed xs i y rising l before after =
    IsNonDecreasingBy-insert (λ x. x) xs i y rising l
    (λ k d m. subst (λ v. v ≤ y) (get_or_default xs k 0 d (omega arith)) (before k m))
    (λ k d m n. subst (λ v. y ≤ v) (get_or_default xs k 0 d n) (after k m n))

pub inserted : (xs : List ℕ) (i y : ℕ) → IsNonDecreasing xs × All IsSize xs → IsSize y
    → i ≤ length xs → ((k : ℕ) → k < i → get_or xs k 0 ≤ y)
    → ((k : ℕ) → i ≤ k → k < length xs → y ≤ get_or xs k 0) → IsNonDecreasing (insert xs i y)
    × All IsSize (insert xs i y)
inserted xs i y heaps size l before after = (
  placed xs i y heaps.0 l before after,
  All-permutation IsSize (y ∷ xs) (insert xs i y) (IsPermutation-insert xs i y)
      (All-cons IsSize y xs size heaps.1),
)

-- what stays where a heap goes
pub rest_rises : (xs : List ℕ) (i : ℕ) → i < length xs → IsNonDecreasing xs
    → IsNonDecreasing (remove xs i)
rest_rises xs i l h a b d o m =
    let n = length-remove xs i l in
    elim (dec_le (b + 1) i) [
      | yes p ↦ omega (
        arith,
        h a b d o (omega arith),
        get_or-remove_below xs i d a (omega arith) l,
        get_or-remove_below xs i d b (omega arith) l,
      )
      | no p ↦ elim (dec_le (a + 1) i) [
        | yes q ↦ omega (
          arith,
          h a (b + 1) d (omega arith) (omega arith),
          get_or-remove_below xs i d a (omega arith) l,
          get_or-remove_above xs i d b (omega arith)
              l,
        )
        | no q ↦ omega (
          arith,
          h (a + 1) (b + 1) d (omega arith) (omega arith),
          get_or-remove_above xs i d a (omega arith) l,
          get_or-remove_above xs i d b (omega arith)
              l,
        )
      ]
    ]

rest_fits : (xs : List ℕ) (i : ℕ) → i < length xs → All IsSize xs → All IsSize (remove xs i)
rest_fits xs i l h k d m =
    let n = length-remove xs i l in
    elim (dec_le (k + 1) i) [
      | yes p ↦ subst IsSize (sym (get_or-remove_below xs i d k (omega arith) l))
          (h k d (omega arith))
      | no p ↦ subst IsSize (sym (get_or-remove_above xs i d k (omega arith) l))
          (h (k + 1) d (omega arith))
    ]

-- the heaps after a move
pub moved_fit : (xs : List ℕ) (i : ℕ) (L : Left) (ys : List ℕ) → i < length xs → All IsSize xs
    → All IsSize (heaps_of L) → IsPermutation (heaps_of L ++ remove xs i) ys → All IsSize ys
moved_fit xs i L ys l h s p =
    All-permutation IsSize (heaps_of L ++ remove xs i) ys p
    (All-append IsSize (heaps_of L) (remove xs i) s (rest_fits xs i l h))
