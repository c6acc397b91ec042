-- What an option leaves of a heap, beside the other heaps.
use Rattle.std.proofs.Common.{ℕ, ◌<◌, ◌≤◌, List, [], ◌∷◌, ◌++◌, length, get_or, arith, All, remove}
use Rattle.std.specs.List.Sorted.{IsPermutation}
use Rattle.std.proofs.lemmas.List.{get_or_default}
use Rattle.std.proofs.lemmas.List.Elements.{All-cons, All-nil}
use Rattle.std.proofs.lemmas.List.Sorted.{IsPermutation-remove, IsPermutation-sym}
use Rattle.misere_theory.specs.Games.{HeapOption, MultisetMove}
use Rattle.misere_theory.specs.Games.HeapOption.{One, Two, Three}

-- no part is larger than the heap
pub option_fits : (code : List ℕ) (n M : ℕ) (H : List ℕ) → HeapOption code n H → n ≤ M
    → All (λ m. (1 ≤ m) × (m ≤ M)) H
option_fits code n M [] h l = All-nil (λ m. (1 ≤ m) × (m ≤ M))
option_fits code n M (a ∷ []) (One j _ p q e b) l =
    All-cons (λ m. (1 ≤ m) × (m ≤ M)) a [] (q, omega arith) (All-nil (λ m. (1 ≤ m) × (m ≤ M)))
option_fits code n M (a ∷ b ∷ []) (Two j _ _ p q e d) l =
    All-cons (λ m. (1 ≤ m) × (m ≤ M)) a (b ∷ []) (p, omega arith)
    (All-cons (λ m. (1 ≤ m) × (m ≤ M)) b [] (q, omega arith) (All-nil (λ m. (1 ≤ m) × (m ≤ M))))
option_fits code n M (a ∷ b ∷ c ∷ []) (Three j _ _ _ p q r e d) l =
    All-cons (λ m. (1 ≤ m) × (m ≤ M)) a (b ∷ c ∷ []) (p, omega arith)
    (All-cons (λ m. (1 ≤ m) × (m ≤ M)) b (c ∷ []) (q, omega arith)
    (All-cons (λ m. (1 ≤ m) × (m ≤ M)) c [] (r, omega arith) (All-nil (λ m. (1 ≤ m) × (m ≤ M)))))
option_fits code n M (a ∷ b ∷ c ∷ d ∷ H) h l = elim h [ ]

-- the heap at a place goes, and what the move leaves of it comes
pub move_from_place : (code X : List ℕ) (i : ℕ) (H Y : List ℕ) → i < length X
    → HeapOption code (get_or X i 0) H
    → IsPermutation (H ++ remove X i) Y → MultisetMove code X Y
move_from_place code X i H Y l h s = (
  get_or X i 0,
  H,
  record {
    others = remove X i;
    before = IsPermutation-remove X i (get_or X i 0) l (get_or_default X i 0 (get_or X i 0) l);
    allowed = h;
    after = IsPermutation-sym (H ++ remove X i) Y s;
  },
)
