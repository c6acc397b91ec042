-- How many letters words have that are reduced, and of which no exponent is large.
use Rattle.std.proofs.Common.{ℕ, zero, suc, ◌*◌, ◌<◌, ◌≤◌, List, arith}
use Rattle.std.specs.Prelude.{slice_index}
use Rattle.relations.specs.Bases.{letter_count}
use Rattle.normal_forms.specs.Reductions.{ReducesTo, AreOriented}
use Rattle.normal_forms.specs.Reductions.ReducesTo.{Stays, Goes}
use Rattle.normal_forms.proofs.Replaced.{step-few}
use Rattle.normal_forms.proofs.Ranks.{at-most-count}
use Rattle.normal_forms.proofs.Steps.{rule-falls}

-- no exponent is larger than b
pub count-most : (n b : ℕ) (w : List ℕ) → ((i : ℕ) → i < n → slice_index w i ≤ b) → letter_count n w ≤ n * b
count-most zero b w most = omega arith
count-most (suc n) b w most =
    omega (arith, count-most n b w (λ i lt. most i (omega (arith, lt))), most n (omega arith))

-- no exponent is larger than the count
pub each-most : (n b : ℕ) (w : List ℕ) → letter_count n w ≤ b → (i : ℕ) → i < n → slice_index w i ≤ b
each-most n b w few i lt = omega (arith, few, at-most-count n w i lt)

-- what a word is reduced to has no more letters
pub reduces-few : (n : ℕ) (relations : List (List ℕ × List ℕ)) → AreOriented n relations → (w u : List ℕ)
    → ReducesTo n relations w u → letter_count n u ≤ letter_count n w
reduces-few n relations are w u (Stays x) = omega arith
reduces-few n relations are w u (Goes r x y z at step more) =
    omega (
      arith,
      step-few n r x y (rule-falls n relations are r at) step,
      reduces-few n relations are y z more,
    )
