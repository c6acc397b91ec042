-- Periods of finite lists, as of the values of a pretending function that are known so far. This
-- project's own.
use Rattle.std.specs.Prelude.{◌≡◌, ℕ, ◌+◌, ◌*◌, ◌-◌, ◌≤◌, List, length, slice_index}

-- the entry of this number, from 1
abbrev pub entry : List ℕ → ℕ → ℕ
entry es i = slice_index es (i - 1)

-- from the entry s on, each one is equal to the one p later, as far as the list goes
abbrev pub RepeatsFrom : List ℕ → ℕ → ℕ → Type 0
RepeatsFrom es s p = (i : ℕ) → s ≤ i → i + p ≤ length es → entry es (i + p) ≡ entry es i

-- From the entry s on the list has the period p, and shows it twice.
pub record IsPeriodic (es : List ℕ) (s p : ℕ) : Type 0 where
  pub starts : 1 ≤ s
  pub goes_on : 1 ≤ p
  pub shown_twice : s + 2 * p ≤ length es + 1
  pub repeats : RepeatsFrom es s p

-- The list has the period p from s on; no smaller period serves from anywhere, and p from no
-- smaller start.
pub record IsLeastPeriod (es : List ℕ) (s p : ℕ) : Type 0 where
  pub is : IsPeriodic es s p
  pub least : (t q : ℕ) → IsPeriodic es t q → p ≤ q
  pub earliest : (t : ℕ) → IsPeriodic es t p → s ≤ t

-- it has none
abbrev pub HasNoPeriod : List ℕ → Type 0
HasNoPeriod es = (s p : ℕ) → IsPeriodic es s p → ⊥
