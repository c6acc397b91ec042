-- Positions with a large heap: moves lead to positions with a heap that is large enough.
-- By induction on the heaps.
use Rattle.std.proofs.Common.{◌≡◌, ℕ, zero, suc, ◌-◌, ◌≤◌, ◌<◌, ◌⊎◌, List, [], ◌∷◌, ◌++◌, refl, sym, subst, inl, inr, arith, IsBitSet}
use native.Mathlib.Decide.{dec_lt}
use Rattle.misere_theory.specs.Games.{digit, IsFirstDigit, IsCode, HeapOption, Move, IsHeap, IsPosition}
use Rattle.misere_theory.specs.Games.HeapOption.{Nothing, One, Two, Three}
use Rattle.misere_theory.specs.Games.Move.{Here, There}
use Rattle.misere_theory.specs.Kinds.{IsHeapIn}
use Rattle.misere_theory.proofs.Codes.{seen_three, digit_within}
use Rattle.nim_tails.specs.NormalTails.{IsSomeAbove, IsLongEnough}

above_left : (N : ℕ) (X Y : List ℕ) → IsSomeAbove N X → IsSomeAbove N (X ++ Y)
above_left N [] Y h = absurd h
above_left N (n ∷ X) Y (inl l) = inl l
above_left N (n ∷ X) Y (inr h) = inr (above_left N X Y h)

above_right : (N : ℕ) (X Y : List ℕ) → IsSomeAbove N Y → IsSomeAbove N (X ++ Y)
above_right N [] Y h = h
above_right N (n ∷ X) Y h = inr (above_right N X Y h)

pub above_lower : (N M : ℕ) (X : List ℕ) → N ≤ M → IsSomeAbove M X → IsSomeAbove N X
above_lower N M [] l h = h
above_lower N M (n ∷ X) l (inl h) = inl (omega arith)
above_lower N M (n ∷ X) l (inr h) = inr (above_lower N M X l h)

-- some heap is above M, or none is
pub above_or_within : (M : ℕ) → 0 < M → (X : List ℕ) → IsPosition IsHeap X
    → IsSomeAbove M X ⊎ IsPosition (IsHeapIn M) X
above_or_within M s [] p = inr tt
above_or_within M s (n ∷ X) p = elim (dec_lt M n) [
  | yes l ↦ inl (inl l)
  | no f ↦ elim (above_or_within M s X p.1) [
    | inl h ↦ inl (inr h)
    | inr q ↦ inr ((p.0, λ z. omega arith), q)
  ]
]

first_digit : (d : ℕ) → IsFirstDigit d → IsBitSet d 1 → ⊥
first_digit d (inl e) b = subst (λ i. IsBitSet i 1) e b refl
first_digit d (inr (inl e)) b = subst (λ i. IsBitSet i 1) e b refl
first_digit d (inr (inr (inl e))) b = subst (λ i. IsBitSet i 1) e b refl
first_digit d (inr (inr (inr e))) b = subst (λ i. IsBitSet i 1) e b refl

no_first : (code : List ℕ) → IsCode code → IsBitSet (digit code 0) 1 → ⊥
no_first [] good b = good
no_first (d ∷ ds) good b = first_digit d good.0 b

module _ (M N : ℕ) (code : List ℕ) (good : IsCode code) (long : IsLongEnough M code N) where
  options_above : (n : ℕ) (H : List ℕ) → M < n → HeapOption code n H → IsSomeAbove N H
  options_above n _ l (Nothing j p e b) =
      let w = digit_within code j 0 b in let m = long.more in absurd (omega arith)
  options_above n _ l (One j a p q e b) =
      let w = digit_within code j 1 b in let m = long.two in inl (omega arith)
  options_above n _ l (Two j a b p q e s) =
      let w = digit_within code j 2 s in let m = long.two in elim (dec_lt N a) [
        | yes h ↦ inl h
        | no f ↦ inr (inl (omega arith))
      ]
  options_above n _ l (Three j a b c p q r e s) =
      let w = digit_within code j 3 s in
      let m = long.three (seen_three code j s) in elim (dec_lt N a) [
        | yes h ↦ inl h
        | no f ↦ elim (dec_lt N b) [
          | yes h ↦ inr (inl h)
          | no g ↦ inr (inr (inl (omega arith)))
        ]
      ]

  least_above : N ≤ M
  least_above = let m = long.two in let k = long.more in omega arith

  -- a move where a heap is above M leaves one above N
  pub moves_above : {X Y : List ℕ} → Move code X Y → IsSomeAbove M X → IsSomeAbove N Y
  moves_above (Here {n = n} {X = X} {H = H} o e) (inl l) =
      subst (IsSomeAbove N) (sym e) (above_left N H X (options_above n H l o))
  moves_above (Here {X = X} {H = H} o e) (inr h) =
      subst (IsSomeAbove N) (sym e) (above_right N H X (above_lower N M X least_above h))
  moves_above (There {n = n} m e) (inl l) =
      let k = least_above in subst (IsSomeAbove N) (sym e) (inl (omega arith))
  moves_above (There m e) (inr h) = subst (IsSomeAbove N) (sym e) (inr (moves_above m h))

  option_by : (n j b : ℕ) → M < n → 1 ≤ b → b ≤ 3 → IsBitSet (digit code j) b
      → (H : List ℕ) × HeapOption code n H
  option_by n j zero l p q s = absurd (omega arith)
  option_by n j (suc zero) l p q s = elim (dec_lt 0 j) [
    | yes i ↦
        let w = digit_within code j 1 s in let m = long.more in
        ((n - j) ∷ [], One j (n - j) i (omega arith) (omega arith) s)
    | no f ↦
        let e : j ≡ 0 = omega arith in
        absurd (no_first code good (subst (λ i. IsBitSet (digit code i) 1) e s))
  ]
  option_by n j (suc (suc zero)) l p q s =
      let w = digit_within code j 2 s in let m = long.more in (
        1 ∷ (n - j - 1) ∷ [],
        Two j 1 (n - j - 1) (omega arith) (omega arith) (omega arith) s,
      )
  option_by n j (suc (suc (suc zero))) l p q s =
      let w = digit_within code j 3 s in let m = long.more in (
        1 ∷ 1 ∷ (n - j - 2) ∷ [],
        Three j 1 1 (n - j - 2) (omega arith) (omega arith) (omega arith) (omega arith) s,
      )
  option_by n j (suc (suc (suc (suc b)))) l p q s = absurd (omega arith)

  -- a heap above M can be moved
  pub can_move : (X : List ℕ) → IsSomeAbove M X → (Y : List ℕ) × Move code X Y
  can_move [] h = absurd h
  can_move (n ∷ X) (inl l) =
      let (j, b, p, q, s) = long.leaves in
      let (H, o) = option_by n j b l p q s in (H ++ X, Here o refl)
  can_move (n ∷ X) (inr h) = let (Y, m) = can_move X h in (n ∷ Y, There m refl)
