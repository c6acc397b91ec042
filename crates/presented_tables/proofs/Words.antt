-- Words of so many exponents, exponent by exponent.
use Rattle.std.proofs.Common.{◌≡◌, ℕ, zero, suc, ◌+◌, ◌<◌, ◌≤◌, List, [], ◌∷◌, length, refl, sym, ◌∙◌, arith, inl, inr}
use Rattle.std.specs.Prelude.{slice_index, nat_eq, true, false}
use Rattle.std.specs.Cmp.Lexicographic.{pointwise, same_text, other_text}
use Rattle.std.proofs.lemmas.Bool.{cases_lt, cases_Bool}
use Rattle.presentations.specs.Vectors.{plus}
use Rattle.normal_forms.specs.Forms.{IsIn}
use Rattle.normal_forms.proofs.Words.{plus-at, same-word, length-sum}

pub past : (v : List ℕ) (k : ℕ) → length v ≤ k → slice_index v k ≡ 0
past [] k le = refl
past (x ∷ v) zero le = absurd (omega (arith, le))
past (x ∷ v) (suc k) le = past v k (omega (arith, le))

-- a word all of whose exponents were looked at
pub in-all : (letters n : ℕ) (v : List ℕ) → length v ≡ n
    → ((k : ℕ) → k < n → letters ≤ k → slice_index v k ≡ 0) → IsIn letters v
in-all letters n v l all k le = elim (cases_lt k n) [
  | inl lt ↦ all k lt le
  | inr past_end ↦ past v k (omega (arith, l, past_end))
]

pub same-true : (v w : List ℕ) → v ≡ w → pointwise nat_eq v w ≡ true
same-true v w e = elim (cases_Bool (pointwise nat_eq v w)) [
  | inl holds ↦ holds
  | inr fails ↦ absurd (other_text v w (sym fails) e)
]

pub other-false : (v w : List ℕ) → (v ≡ w → ⊥) → pointwise nat_eq v w ≡ false
other-false v w n = elim (cases_Bool (pointwise nat_eq v w)) [
  | inl holds ↦ absurd (n (same_text v w (sym holds)))
  | inr fails ↦ fails
]

-- a word whose exponents are the sums
pub sum-word : (n : ℕ) (v w s : List ℕ) → length v ≡ n → length w ≡ n → length s ≡ n
    → ((i : ℕ) → i < n → slice_index s i ≡ slice_index v i + slice_index w i) → s ≡ plus v w
sum-word n v w s v_long w_long s_long at =
    same-word n s (plus v w) s_long (length-sum n v w v_long w_long) (λ i lt. at i lt ∙ sym (plus-at v w i))
