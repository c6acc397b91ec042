-- Codes and kinds, and their keys.
-- A key is the digits and the kind: each code and kind has one, and no two share one.
use Rattle.std.proofs.Common.{◌≡◌, ◌≢◌, ℕ, suc, ◌-◌, ◌≤◌, ◌<◌, inl, inr, List, [], ◌∷◌, length, slice_index, sym, ap, ◌∙◌, arith}
use Rattle.std.proofs.lemmas.Bool.{cases_lt}
use Rattle.std.proofs.lemmas.List.{ext_get_or}
use Rattle.std.proofs.Math.ListN.{get_or-eq_default}
use Rattle.misere_theory.specs.Games.{IsCode, digit}
use Rattle.catalogue.specs.Keys.{IsCodeAndKind}

short_code : (b : List ℕ) → IsCode b → (2 ≤ length b) × (length b ≤ 17)
short_code [] h = absurd h
short_code (d ∷ ds) h = let l = h.1 in let m = h.2 in (omega arith, omega arith)

last_digit : (b : List ℕ) → IsCode b → digit b (length b - 1) ≢ 0
last_digit [] h = absurd h
last_digit (d ∷ ds) h =
    let l = h.1 in
    let one : suc (length ds) - 1 ≡ suc (length ds - 1) = omega arith in
    λ z. h.4 (sym (ap (λ j. slice_index (d ∷ ds) j) one) ∙ z)

-- a code whose digits are those of another is no longer
no_longer : (a b : List ℕ) → IsCode b → ((j : ℕ) → j < 17 → digit a j ≡ digit b j)
    → length b ≤ length a
no_longer a b h same = elim (cases_lt (length a) (length b)) [
  | inl l ↦ let s = short_code b h in
      let past : length a ≤ length b - 1 = omega arith in
      let within : length b - 1 < 17 = omega arith in
      absurd (last_digit b h (sym (same (length b - 1) within) ∙ get_or-eq_default a 0 past))
  | inr l ↦ l
]

-- codes with the same digits are the same
code_from_digits : (a b : List ℕ) → IsCode a → IsCode b
    → ((j : ℕ) → j < 17 → digit a j ≡ digit b j) → a ≡ b
code_from_digits a b ha hb same =
    let ab = no_longer a b hb same in
    let ba = no_longer b a ha (λ j l. sym (same j l)) in
    let s = short_code a ha in
    ext_get_or 0 a b (omega arith) (λ i l. let m : i < length a = l in same i (omega arith))

-- codes and kinds with the same key are the same
pub code_from_key : (k a b : List ℕ) (g h : ℕ) → IsCode a → IsCode b → IsCodeAndKind k a g
    → IsCodeAndKind k b h → (a ≡ b) × (g ≡ h)
code_from_key k a b g h ha hb ka kb = (
  code_from_digits a b ha hb (λ j l. sym (ka.digits j l) ∙ kb.digits j l),
  sym ka.heaps ∙ kb.heaps,
)

-- a code and a kind have one key
pub one_key : (k l a : List ℕ) (g : ℕ) → IsCodeAndKind k a g → IsCodeAndKind l a g → k ≡ l
one_key k l a g kk kl = ext_get_or 0 k l (kk.places ∙ sym kl.places) at
  where
    last : (i : ℕ) → i ≡ 17 → slice_index k i ≡ slice_index l i
    last i e =
        ap (slice_index k) e ∙ kk.heaps ∙ sym kl.heaps ∙ ap (slice_index l) (sym e)

    at : (i : ℕ) → i < length k → slice_index k i ≡ slice_index l i
    at i m = elim (cases_lt i 17) [
      | inl w ↦ kk.digits i w ∙ sym (kl.digits i w)
      | inr w ↦ let p = kk.places in last i (omega arith)
    ]
