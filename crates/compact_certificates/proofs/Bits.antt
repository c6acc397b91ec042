-- Lanes of 64 bits: how one is filled, and where two differ first.
use Rattle.std.proofs.Common.{◌≡◌, ◌≢◌, ℕ, ◌+◌, ◌*◌, ◌/◌, ◌%◌, ◌^◌, ◌<◌, Bool, true, false, eqb, ltb, List, get_or, bit_or, max, refl, ◌∙◌, sym, ap, ap₂, inl, inr, arith, w64, lt-ltb}
use Rattle.std.specs.Prelude.{◌&&◌, bit_xor}
use Rattle.std.specs.Int.{bit_at, trailing_zeros, from_bool}
use Rattle.std.proofs.lemmas.Bool.{cases_lt, cases_eq, false≢true, and_right}
use Rattle.std.proofs.lemmas.Nat.Bits.{bit_at-lt, bit_at-zero, bit_at_xor, bit_at_or, bit_at-trailing_zeros, bit_at_set_same, bit_at_set_other}
use Rattle.compact_certificates.specs.Lanes.{has}
use Rattle.std.proofs.lemmas.Bool.Decides.{nat_tests}

odd_differ : (m n : ℕ) → m < 2 → n < 2 → (m + n) % 2 ≡ 1 → eqb m 1 ≢ eqb n 1
odd_differ m n a b h = λ e. grind (arith, nat_tests)

even_same : (m n : ℕ) → m < 2 → n < 2 → (m + n) % 2 ≡ 0 → m ≡ n
even_same m n a b h = omega arith

module _
    (xs ys : List ℕ) (i : ℕ) (same : (k : ℕ) → k < i → get_or xs k 0 ≡ get_or ys k 0)
    (some : 0 < bit_xor (get_or xs i 0) (get_or ys i 0))
    (fits : bit_xor (get_or xs i 0) (get_or ys i 0) < 2 ^ 64) where
  abbrev d : ℕ
  d = bit_xor (get_or xs i 0) (get_or ys i 0)

  abbrev t : ℕ
  t = trailing_zeros w64 d

  lowest : (t < 64) × (bit_at d t ≡ 1) × ((j : ℕ) → j < t → bit_at d j ≡ 0)
  lowest = bit_at-trailing_zeros w64 d some fits

  here : (zs : List ℕ) → has zs (64 * i + t) ≡ eqb (bit_at (get_or zs i 0) t) 1
  here zs =
      let row : (64 * i + t) / 64 ≡ i = omega (arith, lowest.0) in
      let column : (64 * i + t) % 64 ≡ t = omega (arith, lowest.0) in
      ap₂ (λ k j. eqb (bit_at (get_or zs k 0) j) 1) row column

  pub within : i < 2 ^ 10 → 64 * i + t < 2 ^ 16
  within l = omega (arith, lowest.0)

  pub differs : has xs (64 * i + t) ≢ has ys (64 * i + t)
  differs e =
      odd_differ (bit_at (get_or xs i 0) t) (bit_at (get_or ys i 0) t)
      (bit_at-lt (get_or xs i 0) t) (bit_at-lt (get_or ys i 0) t)
      (sym (bit_at_xor (get_or xs i 0) (get_or ys i 0) t) ∙ lowest.1)
      (sym (here xs) ∙ e ∙ here ys)

  pub agrees : (w : ℕ) → w < 64 * i + t → has xs w ≡ has ys w
  agrees w l = elim (cases_lt (w / 64) i) [
    | inl before ↦ ap (λ n. eqb (bit_at n (w % 64)) 1) (same (w / 64) before)
    | inr late ↦
        let lane : w / 64 ≡ i = omega (arith, lowest.0) in
        let low : w % 64 < t = omega (arith, lowest.0) in
        let bit : bit_at (get_or xs i 0) (w % 64) ≡ bit_at (get_or ys i 0) (w % 64) =
        even_same _ _ (bit_at-lt (get_or xs i 0) (w % 64)) (bit_at-lt (get_or ys i 0) (w % 64))
        (sym (bit_at_xor (get_or xs i 0) (get_or ys i 0) (w % 64)) ∙ lowest.2 (w % 64) low) in
        rw (lane, bit) refl
  ]

not_here : (j i : ℕ) → (j ≡ i → ⊥) → ltb j i ≡ ltb j (i + 1)
not_here j i f = grind (arith, nat_tests)

nothing_more : (j i : ℕ) (before : Bool) → (j ≡ i → false ≡ before)
    → (ltb j i && before) ≡ (ltb j (i + 1) && before)
nothing_more j i true same = ap (λ c. c && true) (not_here j i (λ e. false≢true (same e)))
nothing_more j i false same = and_right (ltb j i) false refl ∙ sym (and_right (ltb j (i + 1)) false refl)

-- a bit is put at i, where none stood from i on
pub one_mark_more : (b : Bool) (n i j : ℕ) (before : Bool) → i < 64 → j < 64
    → eqb (bit_at n j) 1 ≡ (ltb j i && before)
    → (j ≡ i → b ≡ before)
    → eqb (bit_at (bit_or n (from_bool b * 2 ^ i % 2 ^ 64)) j) 1 ≡ (ltb j (i + 1) && before)
one_mark_more true n i j before l h e same = elim (cases_eq j i) [
  | inl here ↦
      rw (here, bit_at_set_same w64 n i l, lt-ltb i (i + 1) (omega arith)) (same here)
  | inr other ↦
      rw (bit_at_set_other w64 n i l j other) (e ∙ ap (λ c. c && before) (not_here j i other))
]
one_mark_more false n i j before l h e same =
    ap (λ k. eqb k 1) (bit_at_or n (0 * 2 ^ i % 2 ^ 64) j ∙ nothing) ∙ e
    ∙ nothing_more j i before same
  where
    nothing : max (bit_at n j) (bit_at (0 * 2 ^ i % 2 ^ 64) j) ≡ bit_at n j
    nothing = let z : 0 * 2 ^ i % 2 ^ 64 ≡ 0 = grind arith in rw (z, bit_at-zero j) (omega arith)
