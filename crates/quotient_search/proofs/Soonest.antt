-- What a search for the least sum of a start and a period has shown.
use Rattle.std.proofs.Common.{◌≡◌, ◌↔◌, ℕ, ◌+◌, ◌-◌, ◌*◌, ◌/◌, ◌<◌, ◌≤◌, rules, IfSome, IsNone, inl, inr, sym, subst, List, length, Option, Some, None, refl, arith}
use Rattle.std.proofs.lemmas.Bool.{cases_lt}
use Rattle.quotient_search.specs.Periods.{RepeatsFrom, IsPeriodic, HasNoPeriod}
use Rattle.quotient_search.specs.Evidence.{IsSoonestPeriod}
use Rattle.quotient_search.proofs.Least.{Earliest, NoneBelow, none, none_here, not_shown}

-- of the periods below p none has a sum below this one
abbrev pub NoLessBelow : List ℕ → ℕ → ℕ → Type 0
NoLessBelow es p sum = (t q : ℕ) → q < p → IsPeriodic es t q → sum ≤ t + q

-- what is found by the periods below p, with the sum of its start and period
abbrev pub Found : List ℕ → ℕ → Option (ℕ × ℕ) → ℕ → Type 0
Found es p None sum = (length es < sum) × NoneBelow es p
Found es p (Some r) sum = IsPeriodic es r.0 r.1 × (r.0 + r.1 ≡ sum) × NoLessBelow es p sum

pub same_found : (es : List ℕ) (p : ℕ) {best other : Option (ℕ × ℕ)} {sum m : ℕ} → best ≡ other
    → sum ≡ m → Found es p other m → Found es p best sum
same_found es p {best} {other} {sum} {m} e d f =
    subst (λ b. Found es p b sum) (sym e) (subst (Found es p other) (sym d) f)

-- no period up to p has a sum below this one
pub no_less_here : (es : List ℕ) (p s sum : ℕ) → ((t : ℕ) → IsPeriodic es t p → sum ≤ t + p)
    → NoLessBelow es p sum → NoLessBelow es (p + 1) sum
no_less_here es p s sum here below t q b is = elim (cases_lt q p) [
  | inl l ↦ below t q l is
  | inr g ↦ let e : p ≡ q = omega arith in
      let P : ℕ → Type 0 = λ m. IsPeriodic es t m → sum ≤ t + m in subst P e (here t) is
]

-- the sum of a period that was not found yet is less than every other
pub sum_is_less : (es : List ℕ) (p : ℕ) (best : Option (ℕ × ℕ)) (sum new : ℕ) → new < sum
    → Found es p best sum → NoLessBelow es p new
sum_is_less es p None sum new l f t q b is = absurd (f.1 q t b is)
sum_is_less es p (Some r) sum new l f t q b is = let g : sum ≤ t + q = f.2 t q b is in omega arith

pub found_here : (es : List ℕ) (p s : ℕ) (best : Option (ℕ × ℕ)) (sum : ℕ) → 1 ≤ p → 1 ≤ s
    → RepeatsFrom es s p → Earliest es s p → s + 2 * p ≤ length es + 1 → s + p < sum
    → Found es p best sum
    → Found es (p + 1) (Some (s, p)) (s + p)
found_here es p s best sum one_p one_s r first shown l f = (
  record { starts = one_s; goes_on = one_p; shown_twice = shown; repeats = r },
  refl,
  no_less_here es p s (s + p)
      (λ t is. let g : s ≤ t = first t is.starts is.repeats in omega arith)
      (sum_is_less es p best sum (s + p) l f),
)

-- a period that isn't shown twice
pub passed_over : (es : List ℕ) (p s : ℕ) (best : Option (ℕ × ℕ)) (sum : ℕ) → Earliest es s p
    → length es + 1 - 2 * p < s → Found es p best sum → Found es (p + 1) best sum
passed_over es p s None sum first h f = (f.0, none_here es p s first h f.1)
passed_over es p s (Some r) sum first h f =
    (f.0, f.1, no_less_here es p s sum (λ t is. absurd (not_shown es p s first h t is)) f.2)

-- a period whose sum is no less
pub no_less_found : (es : List ℕ) (p s : ℕ) (best : Option (ℕ × ℕ)) (sum : ℕ) → 1 ≤ p
    → Earliest es s p → s + 2 * p ≤ length es + 1 → sum ≤ s + p → Found es p best sum
    → Found es (p + 1) best sum
no_less_found es p s None sum one first shown h f = let g : length es < sum = f.0 in
    absurd (omega arith)
no_less_found es p s (Some r) sum one first shown h f = (
  f.0,
  f.1,
  no_less_here es p s sum
      (λ t is. let g : s ≤ t = first t is.starts is.repeats in omega arith) f.2,
)

-- what was found once all periods were tried
pub soonest : (es : List ℕ) (p : ℕ) (best : Option (ℕ × ℕ)) (sum : ℕ) → length es / 2 + 1 ≤ p
    → Found es p best sum → IfSome best (λ r. IsSoonestPeriod es r.0 r.1)
soonest es p None sum h f = search rules
soonest es p (Some r) sum h f = record {
  is = f.0;
  soonest = λ t q is.
      let a : 1 ≤ t = is.starts in
      let b : t + 2 * q ≤ length es + 1 = is.shown_twice in
      let same : r.0 + r.1 ≡ sum = f.1 in
      let g : sum ≤ t + q = f.2 t q (omega arith) is in
      omega arith;
}

pub none_where_no_period : (es : List ℕ) (p : ℕ) (best : Option (ℕ × ℕ)) (sum : ℕ)
    → length es / 2 + 1 ≤ p → Found es p best sum → IsNone best ↔ HasNoPeriod es
none_where_no_period es p None sum h f = (λ e. none es p h f.1, λ no. search rules)
none_where_no_period es p (Some r) sum h f = (λ e. search rules, λ no. absurd (no r.0 r.1 f.0))
