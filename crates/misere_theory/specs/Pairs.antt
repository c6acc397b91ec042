-- Transition pairs, which are a value and some values of options: when a list of them speaks for
-- every position. Transition pairs make up the transition algebra of the literature (Plambeck and
-- Siegel; Siegel). Covers, closed lists and what is asked of them are this project's own.
use Rattle.std.specs.Prelude.{◌≡◌, ℕ, ◌+◌, ◌*◌, ◌≤◌, ◌<◌, ◌⊎◌, ◌↔◌, if◌then◌else◌, true, false, List, [], ◌∷◌, Contains}
use Rattle.misere_theory.specs.Games.{digit, leaves_three}
use Rattle.misere_theory.specs.Quotients.{Claim, value, OptionValue, HeapOptionValue}

-- A value and some values of options. Of the list counts only which numbers are in it.
pub record Pair : Type 0 where
  pub value : ℕ
  pub options : List ℕ

-- The same value, and the same values of options.
abbrev pub IsSamePair : Pair → Pair → Type 0
IsSamePair p q = (p.value ≡ q.value) × ((x : ℕ) → Contains p.options x ↔ Contains q.options x)

-- p is exactly the transition pair of X.
pub record IsPairOf (code : List ℕ) (c : Claim) (p : Pair) (X : List ℕ) : Type 0 where
  pub same_value : p.value ≡ value c X
  pub options : (x : ℕ) → Contains p.options x ↔ OptionValue code c X x

-- p covers X: it has the value of X, and some of the values of X's options, at least one where X
-- has an option.
pub record Covers (code : List ℕ) (c : Claim) (p : Pair) (X : List ℕ) : Type 0 where
  pub same_value : p.value ≡ value c X
  pub among : (x : ℕ) → Contains p.options x → OptionValue code c X x
  pub some : (x : ℕ) → OptionValue code c X x → (y : ℕ) × Contains p.options y

-- p covers q: it has the same value, and some of q's options, at least one where q has one.
pub record PairCovers (p q : Pair) : Type 0 where
  pub same_value : p.value ≡ q.value
  pub among : (x : ℕ) → Contains p.options x → Contains q.options x
  pub some : (x : ℕ) → Contains q.options x → (y : ℕ) × Contains p.options y

-- x is among the options' values of the product of the heap n with the pair q.
abbrev pub ProductValue : List ℕ → Claim → ℕ → Pair → ℕ → Type 0
ProductValue code c n q x =
    ((h : ℕ) × HeapOptionValue code c n h × (x ≡ c.times h q.value))
    ⊎ ((y : ℕ) × Contains q.options y × (x ≡ c.times (c.phi n) y))

-- p covers the product of the heap n with the pair q.
pub record CoversProduct (code : List ℕ) (c : Claim) (p : Pair) (n : ℕ) (q : Pair) : Type 0 where
  pub same_value : p.value ≡ c.times (c.phi n) q.value
  pub among : (x : ℕ) → Contains p.options x → ProductValue code c n q x
  pub some : (x : ℕ) → ProductValue code c n q x → (y : ℕ) × Contains p.options y

-- The kept pairs cover the empty position, and the product of each of these heaps with each of
-- them.
pub record IsClosed (code : List ℕ) (c : Claim) (heaps : ℕ → Type 0) (kept : List Pair) : Type 0
  where
    pub start : (p : Pair) × Contains kept p × Covers code c p []
    pub step : (q : Pair) → Contains kept q → (n : ℕ) → heaps n → (p : Pair) × Contains kept p
        × CoversProduct code c p n q

-- Each kept pair obeys the rule: outside the portion, if it has options' values, one is in the
-- portion; inside it has one. That none of them is in the portion then is for ElementsObey.
pub record KeptObey (c : Claim) (kept : List Pair) : Type 0 where
  pub outside : (p : Pair) → Contains kept p → c.portion p.value ≡ false
      → (x : ℕ) → Contains p.options x → (y : ℕ) × Contains p.options y × (c.portion y ≡ true)
  pub inside : (p : Pair) → Contains kept p
      → c.portion p.value ≡ true → (x : ℕ) × Contains p.options x

-- No option of one of these heaps leads from the portion into it, whatever element stands beside
-- the heap.
abbrev pub ElementsObey : List ℕ → Claim → (ℕ → Type 0) → Type 0
ElementsObey code c heaps =
    (n h y : ℕ) → heaps n → HeapOptionValue code c n h → y < c.order
    → c.portion (c.times (c.phi n) y) ≡ true → c.portion (c.times h y) ≡ false

-- The code has no digit past dk, and phi has the period from start on.
pub record IsPeriodic (code : List ℕ) (c : Claim) (k start period : ℕ) : Type 0 where
  pub last : (j : ℕ) → k < j → digit code j ≡ 0
  pub from_one : 1 ≤ start
  pub some : 1 ≤ period
  pub repeats : (n : ℕ) → start ≤ n → c.phi (period + n) ≡ c.phi n

-- B: each heap has the pair of one of the heaps 1 to B. Three times start + period, and k, where a
-- move may leave three heaps, and else twice. Compare Plambeck and Siegel's periodicity theorem for
-- misère quotients, and Guy and Smith's for normal play.
abbrev pub heap_bound : List ℕ → ℕ → ℕ → ℕ → ℕ
heap_bound code k start period =
    if leaves_three code then 3 * start + 3 * period + k else 2 * start + 2 * period + k

-- The heaps n and m have the same pair: the same element and the same values of options.
abbrev pub SameHeapPair : List ℕ → Claim → ℕ → ℕ → Type 0
SameHeapPair code c n m =
    (c.phi n ≡ c.phi m) × ((x : ℕ) → HeapOptionValue code c n x ↔ HeapOptionValue code c m x)

-- Where two or three heaps are left, they rise, and all but the largest are below the bound.
abbrev pub IsSmallSplit : ℕ → List ℕ → Type 0
IsSmallSplit bound [] = Unit {0}
IsSmallSplit bound (a ∷ []) = Unit {0}
IsSmallSplit bound (a ∷ b ∷ []) = (a ≤ b) × (a < bound)
IsSmallSplit bound (a ∷ b ∷ c ∷ H) = (a ≤ b) × (b ≤ c) × (a < bound) × (b < bound)
