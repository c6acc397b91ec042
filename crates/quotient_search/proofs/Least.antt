-- What a search through the periods, from 1 on, has shown.
use Rattle.std.proofs.Common.{◌≡◌, ℕ, ◌+◌, ◌-◌, ◌*◌, ◌/◌, ◌<◌, ◌≤◌, inl, inr, subst, List, length, slice_index, arith}
use Rattle.std.proofs.lemmas.Bool.{cases_lt}
use Rattle.quotient_search.specs.Periods.{RepeatsFrom, IsPeriodic, IsLeastPeriod, HasNoPeriod}

-- no period below p serves
abbrev pub NoneBelow : List ℕ → ℕ → Type 0
NoneBelow es p = (q s : ℕ) → q < p → IsPeriodic es s q → ⊥

-- p serves from no start below s
abbrev pub Earliest : List ℕ → ℕ → ℕ → Type 0
Earliest es s p = (t : ℕ) → 1 ≤ t → RepeatsFrom es t p → s ≤ t

-- counted from 0, the entries from k on are equal to those p later
abbrev pub Agrees : List ℕ → ℕ → ℕ → Type 0
Agrees es start p = (k : ℕ) → start ≤ k → k + p < length es
    → slice_index es k ≡ slice_index es (k + p)

pub not_shown : (es : List ℕ) (p s : ℕ) → Earliest es s p → length es + 1 - 2 * p < s → (t : ℕ)
    → IsPeriodic es t p → ⊥
not_shown es p s f h t is = let a : s ≤ t = f t is.starts is.repeats in
    let b : t + 2 * p ≤ length es + 1 = is.shown_twice in omega arith

pub none_here : (es : List ℕ) (p s : ℕ) → Earliest es s p → length es + 1 - 2 * p < s
    → NoneBelow es p → NoneBelow es (p + 1)
none_here es p s f h below q t b is = elim (cases_lt q p) [
  | inl l ↦ below q t l is
  | inr g ↦ let e : p ≡ q = omega arith in let P : ℕ → Type 0 = λ m. IsPeriodic es t m → ⊥ in
      subst P e (not_shown es p s f h t) is
]

pub found : (es : List ℕ) (p s : ℕ) → 1 ≤ p → 1 ≤ s → RepeatsFrom es s p → Earliest es s p
    → s + 2 * p ≤ length es + 1 → NoneBelow es p
    → IsLeastPeriod es s p
found es p s one_p one_s r f h below = record {
  is = record { starts = one_s; goes_on = one_p; shown_twice = h; repeats = r };
  least = λ t q is. elim (cases_lt q p) [ inl l ↦ absurd (below q t l is) | inr g ↦ g ];
  earliest = λ t is. f t is.starts is.repeats;
}

pub none : (es : List ℕ) (p : ℕ) → length es / 2 + 1 ≤ p → NoneBelow es p → HasNoPeriod es
none es p h below s q is = let a : 1 ≤ s = is.starts in let b : s + 2 * q ≤ length es + 1 =
    is.shown_twice in below q s (omega arith) is
