-- The options of a heap that a player looks at.
use Rattle.std.specs.Prelude.{◌≡◌, ℕ, ◌+◌, ◌*◌, Bool, true, if◌then◌else◌, List, length}
use Rattle.std.specs.List.Sorted.{IsNonDecreasing}
use Rattle.misere_theory.specs.Certificates.{Certificate, claim_of}
use Rattle.misere_theory.specs.Games.{HeapOption, leaves_three}
use Rattle.misere_theory.specs.Plays.{LeftBefore}
use Rattle.misere_theory.specs.Quotients.{value}

-- as many options are looked at at most
abbrev pub most_looks : Certificate → ℕ
most_looks c =
    if leaves_three c.code
    then length c.code * ((c.start + c.period + 1) * (c.start + c.period + 1))
    else length c.code * (c.start + c.period + 1)

-- whether H, beside a position of value y, makes a value in the P-portion
abbrev pub puts : Certificate → ℕ → List ℕ → Bool
puts c y H = (claim_of c).portion ((claim_of c).times y (value (claim_of c) H))

-- H is the first option of the heap n, the smaller part first, that makes a value in the P-portion
-- beside y. This project's own.
pub record IsFirstInto (c : Certificate) (n y : ℕ) (H : List ℕ) : Type 0 where
  pub option : HeapOption c.code n H
  pub in_order : IsNonDecreasing H
  pub here : puts c y H ≡ true
  pub first : (L : List ℕ) → HeapOption c.code n L → IsNonDecreasing L → puts c y L ≡ true
      → LeftBefore L H → ⊥
