-- Which codes have a digit with bit 8, and which are octal.
-- By induction on the digits.
use Rattle.std.proofs.Common.{◌≡◌, ◌↔◌, ℕ, ◌<◌, ◌≤◌, List, length, refl, sym, ◌∙◌, subst, true, false, not, eqb, bit_and, lt-ltb, le-ltb, arith, All, IsBitSet, get_or, ap, nat_lt}
use Rattle.std.proofs.lemmas.Bool.{true≢false, agree_below_at}
use Rattle.std.proofs.lemmas.Bool.Decides.{nat_tests}
use Rattle.std.proofs.lemmas.List.{get_or_past, get_or_default}
use Rattle.std.proofs.lemmas.List.Elements.{All-weaker}
use Rattle.std.proofs.lemmas.List.Folds.{list_any_at, list_any_none, Any-from_list_any}
use native.Mathlib.Decide.{dec_le, dec_lt}
use Rattle.misere_theory.specs.Games.{digit, leaves_three, is_octal, HeapOption}
use Rattle.misere_theory.specs.Games.HeapOption.{Nothing, One, Two, Three}

pub no_bit_of_zero : (d b : ℕ) → d ≡ 0 → IsBitSet d b → ⊥
no_bit_of_zero d b e h = let f = subst (λ i. IsBitSet i b) e h in f refl

pub digit_within : (code : List ℕ) (j b : ℕ) → IsBitSet (digit code j) b → j < length code
digit_within code j b h = elim (dec_le (length code) j) [
  | yes past ↦ absurd (no_bit_of_zero (digit code j) b (get_or_past code j 0 past) h)
  | no f ↦ omega arith
]

bit_is : (d m : ℕ) → (bit_and d m ≡ 0 → ⊥) → not (eqb (bit_and d m) 0) ≡ true
bit_is d m e = grind (arith, nat_tests)

-- a digit with bit 8 is seen in its code
pub seen_three : (code : List ℕ) (j : ℕ) → IsBitSet (digit code j) 3 → leaves_three code ≡ true
seen_three code j h =
    list_any_at (λ d. not (eqb (bit_and d 8) 0)) code j 0 (digit_within code j 3 h)
    (bit_is (digit code j) 8 h)

pub no_three : (code : List ℕ) (j : ℕ) → leaves_three code ≡ false → IsBitSet (digit code j) 3 → ⊥
no_three code j e h = true≢false (sym (seen_three code j h) ∙ e)

bit_says : (d m : ℕ) → not (eqb (bit_and d m) 0) ≡ true → bit_and d m ≡ 0 → ⊥
bit_says d m e = grind (arith, nat_tests)

has_three : (code : List ℕ) → leaves_three code ≡ true → (j : ℕ) × IsBitSet (digit code j) 3
has_three code e =
    let (j, d, l, at, h) = Any-from_list_any (λ d. not (eqb (bit_and d 8) 0)) code e in
    let same : digit code j ≡ d = get_or_default code j 0 d l ∙ at in
    (j, subst (λ i. IsBitSet i 3) (sym same) (bit_says d 8 h))

pub three_is_seen : (code : List ℕ) → (leaves_three code ≡ true)
    ↔ ((j : ℕ) × IsBitSet (digit code j) 3)
three_is_seen code = (has_three code, λ h. seen_three code h.0 h.1)

octal_digit : (d : ℕ) → d < 8 → not (eqb (bit_and d 8) 0) ≡ false
octal_digit d l = agree_below_at (λ d. not (eqb (bit_and d 8) 0)) (λ d. false) 8 d refl l

pub octal_exactly : (code : List ℕ) → (is_octal code ≡ true) ↔ All (λ d. d < 8) code
octal_exactly code = (
  λ e k d l. elim (dec_lt 7 (get_or code k d)) [
    | no f ↦ omega arith
    | yes m ↦ absurd (true≢false (sym e
        ∙ ap not (list_any_at (λ d. nat_lt 7 d) code k d l (lt-ltb 7 (get_or code k d) m))))
  ],
  λ h. ap not (list_any_none (λ d. nat_lt 7 d) code
      (All-weaker (λ d. d < 8) (λ d. nat_lt 7 d ≡ false) (λ d l. le-ltb 7 d (omega arith)) code h)),
)

pub octal_leaves_no_three : (code : List ℕ) → is_octal code ≡ true → leaves_three code ≡ false
octal_leaves_no_three code e =
    let (digits, back) = octal_exactly code in
    list_any_none (λ d. not (eqb (bit_and d 8) 0)) code
    (All-weaker (λ d. d < 8) (λ d. not (eqb (bit_and d 8) 0) ≡ false) octal_digit code (digits e))

pub two_at_most : (code : List ℕ) (n : ℕ) (H : List ℕ) → leaves_three code ≡ false
    → HeapOption code n H → length H ≤ 2
two_at_most code n H e (Nothing j p h b) = omega arith
two_at_most code n H e (One j a p q h b) = omega arith
two_at_most code n H e (Two j a b p q h s) = omega arith
two_at_most code n H e (Three j a b c p q r h s) = absurd (no_three code j e s)
