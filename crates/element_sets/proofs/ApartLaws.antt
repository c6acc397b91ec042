-- Where two sets first differ.
use Rattle.std.proofs.Common.{◌≡◌, ◌≢◌, ℕ, ◌+◌, ◌*◌, ◌/◌, ◌%◌, ◌^◌, ◌<◌, eqb, List, length, get_or, sym, ap, ◌∙◌, inl, inr, arith, w64}
use Rattle.std.specs.Int.{bit_at, trailing_zeros}
use Rattle.std.specs.Int.Bits.{bit_xor}
use Rattle.std.specs.FinSet as fin
use Rattle.std.proofs.lemmas.Bool.{cases_lt}
use Rattle.std.proofs.lemmas.Bool.Decides.{nat_tests}
use Rattle.std.proofs.lemmas.Nat.{xor_lt}
use Rattle.std.proofs.lemmas.Nat.Bits.{bit_at_xor, bit_at-lt, bit_at-trailing_zeros}
use Rattle.element_sets.specs.Lanes.{set_of}
use Rattle.element_sets.specs.LaneLaws.{contains-set_of, has_past}

alike_bit : (a b j : ℕ) → bit_at (bit_xor a b) j ≡ 0 → bit_at a j ≡ bit_at b j
alike_bit a b j e =
    let x = bit_at_xor a b j in
    let m = bit_at-lt a j in
    let n = bit_at-lt b j in
    omega arith

-- the first lanes are the same
abbrev pub Alike : List ℕ → List ℕ → ℕ → Type 0
Alike xs ys i = (k : ℕ) → k < i → get_or xs k 0 ≡ get_or ys k 0

same_lane : (xs ys : List ℕ) (x : ℕ) → get_or xs (x / 64) 0 ≡ get_or ys (x / 64) 0
    → fin.contains (set_of xs) x ≡ fin.contains (set_of ys) x
same_lane xs ys x e =
    contains-set_of xs x ∙ ap (λ n. eqb (bit_at n (x % 64)) 1) e ∙ sym (contains-set_of ys x)

-- below the bound, where all lanes that have such numbers are the same
pub alike_all : (xs ys : List ℕ) (i bound x : ℕ) → length xs ≡ length ys → Alike xs ys i → x < bound
    → (64 * i < bound → i ≡ length xs) → fin.contains (set_of xs) x ≡ fin.contains (set_of ys) x
alike_all xs ys i bound x same a b end = elim (cases_lt (x / 64) i) [
  | inl low ↦ same_lane xs ys x (a (x / 64) low)
  | inr high ↦
      let e = end (omega arith) in
      contains-set_of xs x ∙ has_past xs x (omega arith)
      ∙ sym (contains-set_of ys x ∙ has_past ys x (omega arith))
]

module _ (xs ys : List ℕ) (i : ℕ) (a : Alike xs ys i) (fits : (k : ℕ) → get_or xs k 0 < 2 ^ 64)
    (fits2 : (k : ℕ) → get_or ys k 0 < 2 ^ 64)
    (some : 0 < bit_xor (get_or xs i 0) (get_or ys i 0)) where
  abbrev first : ℕ
  first = trailing_zeros w64 (bit_xor (get_or xs i 0) (get_or ys i 0))

  lowest : (first < 64) × (bit_at (bit_xor (get_or xs i 0) (get_or ys i 0)) first ≡ 1)
      × ((j : ℕ) → j < first → bit_at (bit_xor (get_or xs i 0) (get_or ys i 0)) j ≡ 0)
  lowest =
      bit_at-trailing_zeros w64 _ some (xor_lt 64 (get_or xs i 0) (get_or ys i 0) (fits i) (fits2 i))

  -- below the first bit that differs
  pub alike_to : (x : ℕ) → x < 64 * i + first
      → fin.contains (set_of xs) x ≡ fin.contains (set_of ys) x
  alike_to x b = elim (cases_lt (x / 64) i) [
    | inl low ↦ same_lane xs ys x (a (x / 64) low)
    | inr high ↦
        let t = lowest.0 in
        let here : x / 64 ≡ i = omega arith in
        let l : x % 64 < first = omega arith in
        contains-set_of xs x ∙ ap (λ k. eqb (bit_at (get_or xs k 0) (x % 64)) 1) here
        ∙ ap (λ n. eqb n 1) (alike_bit (get_or xs i 0) (get_or ys i 0) (x % 64) (lowest.2 (x % 64) l))
        ∙ sym (contains-set_of ys x ∙ ap (λ k. eqb (bit_at (get_or ys k 0) (x % 64)) 1) here)
  ]

  differing : (m n : ℕ) → m < 2 → n < 2 → (m + n) % 2 ≡ 1 → eqb m 1 ≡ eqb n 1 → ⊥
  differing m n l k e d = grind (arith, nat_tests)

  -- at that bit
  pub apart_at : (x : ℕ) → x ≡ 64 * i + first
      → fin.contains (set_of xs) x ≢ fin.contains (set_of ys) x
  apart_at x d e =
      let t = lowest.0 in
      let row : x / 64 ≡ i = omega arith in
      let col : x % 64 ≡ first = omega arith in
      differing _ _ (bit_at-lt (get_or xs i 0) first) (bit_at-lt (get_or ys i 0) first)
      (sym (bit_at_xor (get_or xs i 0) (get_or ys i 0) first) ∙ lowest.1)
      (rw (row, col) at (sym (contains-set_of xs x) ∙ e ∙ contains-set_of ys x))
