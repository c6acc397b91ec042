-- What holds of the heaps before a period's end, and of each heap a period on, holds of all.
-- And so all heaps from some on are far.
use Rattle.std.proofs.Common.{◌≡◌, ℕ, zero, suc, ◌+◌, ◌-◌, ◌*◌, ◌<◌, ◌≤◌, List, [], ◌∷◌, length, subst, arith}
use Rattle.std.proofs.lemmas.Bool.Decides.{nat_tests}
use native.Mathlib.Decide.{dec_lt}
use Rattle.misere_theory.specs.Games.{IsHeap, IsPosition}
use Rattle.dominance.specs.Triples.{Triple, IsElement, triple_of}
use Rattle.dominance.specs.Tested.{State}
use Rattle.dominance.specs.Finite.{Extent, IsExtent, IsFar, heaps_from}
use Rattle.dominance.proofs.Raised.{element_raised, far_raised}

module _ (Q : ℕ → Type 0) (from p : ℕ) (some : 1 ≤ p) (step : (n : ℕ) → from ≤ n → Q n → Q (p + n)) where
  within : (lowest : ℕ) → lowest ≤ from → ((n : ℕ) → lowest ≤ n → n < from + p → Q n)
      → (k n : ℕ) → n < k → lowest ≤ n → Q n
  within lowest low early zero n l h = absurd (omega arith)
  within lowest low early (suc k) n l h = elim (dec_lt n (from + p)) [
    | yes m ↦ early n h m
    | no m ↦
        let e : p + (n - p) ≡ n = omega arith in
        subst Q e (step (n - p) (omega arith)
        (within lowest low early k (n - p) (omega arith) (omega arith)))
  ]

  pub from_periods : (lowest : ℕ) → lowest ≤ from → ((n : ℕ) → lowest ≤ n → n < from + p → Q n)
      → (n : ℕ) → lowest ≤ n → Q n
  from_periods lowest low early n h = within lowest low early (suc n) n (omega arith) h

module _ (code : List ℕ) (label : ℕ → Triple) (kept : List State) (e : Extent)
    (extent : IsExtent code label kept e) where
  pub elements_all : ((n : ℕ) → IsHeap n → n < e.start + e.period → IsElement (label n))
      → (n : ℕ) → IsHeap n → IsElement (label n)
  elements_all early =
      from_periods (λ n. IsElement (label n)) e.start e.period extent.some
      (λ n l p. element_raised e.rise extent.rises.1 (label n) (label (e.period + n))
      (extent.repeats n l) p)
      1 extent.from_one early

  abbrev pub far_off : ℕ
  far_off = e.rise + e.loss + 2 * e.few + 2

  pub far_all : (n : ℕ) → e.large ≤ n → IsFar far_off (label n)
  far_all =
      from_periods (λ n. IsFar far_off (label n)) e.large e.period extent.some
      (λ n l p. far_raised e.rise extent.rises.1 (label n) (label (e.period + n))
      (extent.repeats n (let s = extent.from_start in omega arith)) far_off p)
      e.large (omega arith) extent.far

  -- from a period behind start on each heap has weight
  pub weighs : (n : ℕ) → e.start ≤ n → 0 < (label (e.period + n)).weight
  weighs n l = let r = extent.repeats n l in let s = r.1 in let t = extent.rises.0 in omega arith

  pub few_weigh : (S : List ℕ) → IsPosition IsHeap S → heaps_from e.start S ≡ 0
      → (triple_of label S).weight ≤ length S * e.few
  few_weigh [] p none = omega arith
  few_weigh (x ∷ S) p none =
      let i = few_weigh S p.1 (omega arith) in
      let h : x < e.start = grind (arith, nat_tests) in
      let w = extent.few x p.0 h in
      omega arith
