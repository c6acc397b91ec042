-- What an option leaves, put in order.
-- Up to three parts are sorted by insertion.
use Rattle.std.proofs.Common.{◌≡◌, ℕ, zero, suc, ◌+◌, ◌≤◌, List, [], ◌∷◌, get_or, arith, length, refl}
use Rattle.std.specs.List.Sorted.{IsNonDecreasing}
use native.Mathlib.Decide.{dec_le}
use Rattle.misere_theory.specs.Games.{HeapOption, IsHeap}
use Rattle.misere_theory.specs.Games.HeapOption.{Nothing, One, Two, Three}
use Rattle.misere_theory.proofs.Shuffles.{Shuffled, position_shuffled}
use Rattle.misere_theory.proofs.Shuffles.Shuffled.{Same, Under, Flip, Then}

pub in_order_none : IsNonDecreasing []
in_order_none i j d h l = absurd (omega arith)

-- one more number, no larger than the first
in_order_cons : (x : ℕ) (xs : List ℕ) → (1 ≤ length xs → x ≤ get_or xs 0 0) → IsNonDecreasing xs
    → IsNonDecreasing (x ∷ xs)
in_order_cons x xs first up zero zero d h l = omega arith
in_order_cons x xs first up (suc i) zero d h l = absurd (omega arith)
in_order_cons x (y ∷ ys) first up zero (suc j) d h l =
    let a = first (omega arith) in let b = up 0 j d (omega arith) (omega arith) in omega arith
in_order_cons x [] first up zero (suc j) d h l = absurd (omega arith)
in_order_cons x xs first up (suc i) (suc j) d h l = up i j d (omega arith) (omega arith)

pub in_order_one : (a : ℕ) → IsNonDecreasing (a ∷ [])
in_order_one a = in_order_cons a [] (λ some. absurd (omega arith)) in_order_none

pub in_order_two : (a b : ℕ) → a ≤ b → IsNonDecreasing (a ∷ b ∷ [])
in_order_two a b h = in_order_cons a (b ∷ []) (λ some. h) (in_order_one b)

pub in_order_three : (a b c : ℕ) → a ≤ b → b ≤ c → IsNonDecreasing (a ∷ b ∷ c ∷ [])
in_order_three a b c h g = in_order_cons a (b ∷ c ∷ []) (λ some. h) (in_order_two b c g)

-- three numbers, put in order
abbrev Rising : ℕ → ℕ → ℕ → Type 0
Rising a b c = (x : ℕ) × (y : ℕ) × (z : ℕ) × (x ≤ y) × (y ≤ z) × (x + y + z ≡ a + b + c)
    × Shuffled (a ∷ b ∷ c ∷ []) (x ∷ y ∷ z ∷ [])

-- the first number put between two others that are in order
between : (a b c : ℕ) → b ≤ c → Rising a b c
between a b c l = elim (dec_le a b) [
  | yes h ↦ (a, b, c, h, l, refl, Same)
  | no f ↦ elim (dec_le a c) [
    | yes h ↦ (b, a, c, omega arith, h, omega arith, Flip)
    | no g ↦ (b, c, a, l, omega arith, omega arith, Then Flip (Under Flip))
  ]
]

rising : (a b c : ℕ) → Rising a b c
rising a b c = elim (dec_le b c) [
  | yes l ↦ between a b c l
  | no f ↦ let (x, y, z, l, h, e, s) = between a c b (omega arith) in
      (x, y, z, l, h, omega arith, Then (Under Flip) s)
]

-- of what an option leaves, in order or not, there is an order in which the parts rise
pub put_in_order : {code : List ℕ} {n : ℕ} {H : List ℕ} → HeapOption code n H
    → (L : List ℕ) × HeapOption code n L × IsNonDecreasing L × Shuffled H L
put_in_order (Nothing j p e b) = ([], Nothing j p e b, in_order_none, Same)
put_in_order (One j a p q e b) = (a ∷ [], One j a p q e b, in_order_one a, Same)
put_in_order (Two j a b p q e s) = elim (dec_le a b) [
  | yes l ↦ (a ∷ b ∷ [], Two j a b p q e s, in_order_two a b l, Same)
  | no f ↦ (b ∷ a ∷ [], Two j b a q p (omega arith) s, in_order_two b a (omega arith), Flip)
]
put_in_order (Three j a b c p q r e s) =
    let (x, y, z, low, high, sum, same) = rising a b c in
    let some = position_shuffled IsHeap same (p, (q, (r, tt))) in (
      x ∷ y ∷ z ∷ [],
      Three j x y z some.0 some.1.0 some.1.1.0 (omega arith) s,
      in_order_three x y z low high,
      same,
    )

pub order_dec : {code : List ℕ} {n : ℕ} {H : List ℕ} → HeapOption code n H
    → Dec (IsNonDecreasing H)
order_dec (Nothing j p e b) = yes in_order_none
order_dec (One j a p q e b) = yes (in_order_one a)
order_dec (Two j a b p q e s) =
    elim (dec_le a b)
    [ yes l ↦ yes (in_order_two a b l) | no f ↦ no (λ h. f (h 0 1 0 (omega arith) (omega arith))) ]
order_dec (Three j a b c p q r e s) = elim (dec_le a b) [
  | no f ↦ no (λ h. f (h 0 1 0 (omega arith) (omega arith)))
  | yes l ↦ elim (dec_le b c)
      [ yes g ↦ yes (in_order_three a b c l g) | no f ↦ no (λ h. f (h 1 2 0 (omega arith) (omega arith))) ]
]
