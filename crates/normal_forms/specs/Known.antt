-- Elements that are known, with what each becomes with a letter more. This project's own.
use Rattle.std.specs.Prelude.{◌≡◌, ℕ, ◌+◌, ◌*◌, ◌/◌, ◌%◌, ◌<◌, Option, None, List, [], length, slice_index_or, IfSome}
use Rattle.presentations.specs.declared.TheConstants.{LETTERS}
use Rattle.presentations.specs.Vectors.{plus, zeros, only}
use Rattle.presentations.specs.Congruences.{Related}
use Rattle.normal_forms.specs.Forms.{IsStandard}

-- Words, and an entry for each of them and each letter.
pub record KnownForms : Type 0 where
  pub elements : List (List ℕ)
  pub steps : List (Option ℕ)

-- word k of the list
abbrev pub known_at : List (List ℕ) → ℕ → List ℕ
known_at ws k = slice_index_or ws k []

-- Word e with letter i more is related to word v.
abbrev pub IsStep : List (List ℕ × List ℕ) → List (List ℕ) → ℕ → ℕ → ℕ → Type 0
IsStep relations ws e i v = (v < length ws)
    × Related LETTERS relations (plus (known_at ws e) (only LETTERS i 1)) (known_at ws v)

-- The entries of each word are one for each letter, and say what it becomes.
abbrev pub AreSteps : List (List ℕ × List ℕ) → List (List ℕ) → List (Option ℕ) → Type 0
AreSteps relations ws steps = (k : ℕ) → k < length steps
    → IfSome (slice_index_or steps k None) (λ v. IsStep relations ws (k / LETTERS) (k % LETTERS) v)

-- All words are standard.
abbrev pub AreStandard : List (List ℕ × List ℕ) → List (List ℕ) → Type 0
AreStandard relations ws = (k : ℕ) → k < length ws → IsStandard LETTERS relations (known_at ws k)

-- Standard words, the first of which is that of nothing, and what they become.
pub record AreKnown (relations : List (List ℕ × List ℕ)) (f : KnownForms) : Type 0 where
  pub some : 0 < length f.elements
  pub first : known_at f.elements 0 ≡ zeros LETTERS
  pub standard : AreStandard relations f.elements
  pub steps : AreSteps relations f.elements f.steps
