-- When the triples of positions are the whole misère quotient. This project's own.
use Rattle.std.specs.Prelude.{◌≡◌, ℕ, ◌+◌, ◌≤◌, true, List}
use Rattle.misere_theory.specs.Games.{IsHeap}
use Rattle.misere_theory.specs.Labels.{PredictsOutcomes, says_by}
use Rattle.dominance.specs.Triples.{Triple, IsElement, claim_by}

-- The triples are right of each position of the whole game.
pub record ArePredicting (code : List ℕ) (label : ℕ → Triple) : Type 0 where
  pub elements : (n : ℕ) → IsHeap n → IsElement (label n)
  pub predicts : PredictsOutcomes IsHeap code (says_by (claim_by label))

-- The heap is odd and has no weight.
abbrev pub IsTurning : (ℕ → Triple) → ℕ → Type 0
IsTurning label n =
    IsHeap n × ((label n).odd ≡ true) × ((label n).weight ≡ 0) × ((label n).lead ≡ 0)

-- The heap has the weight 1 and never rules.
abbrev pub IsWaiting : (ℕ → Triple) → ℕ → Type 0
IsWaiting label n = IsHeap n × ((label n).weight ≡ 1) × ((label n).lead ≡ 0)

-- There are heaps that tell all triples apart: a turning one, a waiting one, and for each number one with
-- a lead of at least so much.
pub record HasRulers (label : ℕ → Triple) : Type 0 where
  pub turning : ℕ
  pub waiting : ℕ
  pub ruling : ℕ → ℕ
  pub turns : IsTurning label turning
  pub waits : IsWaiting label waiting
  pub rules : (m : ℕ) → IsHeap (ruling m) × (m ≤ (label (ruling m)).lead)

-- There are heaps that make all elements: for each number a heap with that lead and one more of weight.
pub record HasAllRulers (label : ℕ → Triple) : Type 0 where
  pub turning : ℕ
  pub waiting : ℕ
  pub ruling : ℕ → ℕ
  pub turns : IsTurning label turning
  pub waits : IsWaiting label waiting
  pub rules : (m : ℕ) → 1 ≤ m
      → IsHeap (ruling m) × ((label (ruling m)).lead ≡ m) × ((label (ruling m)).weight ≡ m + 1)
