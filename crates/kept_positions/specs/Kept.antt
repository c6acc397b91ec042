-- Positions that are bad beside a label, and lists of kept ones that are enough to see that none is bad beside
-- nothing. This project's own.
use Rattle.std.specs.Prelude.{◌≡◌, ℕ, ◌+◌, ◌<◌, ◌⊎◌, false, List, [], ◌∷◌}
use Rattle.misere_theory.specs.Games.{HeapOption, Move, IsPosition}
use Rattle.misere_theory.specs.Labels.{LabelClaim, label_of}

-- Beside the label x, neither the position nor any option of it is in the portion. So a position breaks the rule
-- as one that is said to be N exactly if it is bad beside the label of nothing, and has an option.
abbrev pub IsBadBeside : {L : Type 0} → List ℕ → LabelClaim L → L → List ℕ → Type 0
IsBadBeside code c x Z =
    (c.portion (c.times x (label_of c Z)) ≡ false)
    × ((Y : List ℕ) → Move code Z Y → c.portion (c.times x (label_of c Y)) ≡ false)

-- The heap counts, and it has an option.
abbrev pub IsMovable : (ℕ → Type 0) → List ℕ → ℕ → Type 0
IsMovable heap code n = heap n × ((H : List ℕ) × HeapOption code n H)

-- The sum of the weights of a position's heaps.
abbrev pub weight_by : (ℕ → ℕ) → List ℕ → ℕ
weight_by weight [] = 0
weight_by weight (n ∷ X) = weight n + weight_by weight X

-- Beside each label beside which the position is bad, some lighter position of the same label is bad, too. It
-- may be another one beside each label; and it may be empty only if the position isn't bad beside nothing.
abbrev pub IsCoveredBy : {L : Type 0} → (L → Type 0) → (ℕ → Type 0) → List ℕ → LabelClaim L → (ℕ → ℕ)
    → List ℕ → Type 0
IsCoveredBy {L} IsLabel heap code c weight Z =
    (x : L) → IsLabel x → IsBadBeside code c x Z
    → (V : List ℕ) × IsPosition (IsMovable heap code) V × (label_of c V ≡ label_of c Z)
    × (weight_by weight V < weight_by weight Z) × IsBadBeside code c x V
    × (V ≡ [] → IsBadBeside code c c.one Z → ⊥)

-- The empty position is kept, and no other kept one is bad beside nothing. One heap more beside a kept position
-- makes one that is kept or covered.
pub record AreKept {L : Type 0} (IsLabel : L → Type 0) (heap : ℕ → Type 0) (code : List ℕ)
    (c : LabelClaim L) (weight : ℕ → ℕ) (kept : List ℕ → Type 0) : Type 0 where
  pub nothing : kept []
  pub never_bad : (n : ℕ) (Z : List ℕ) → IsPosition (IsMovable heap code) (n ∷ Z) → kept (n ∷ Z)
      → IsBadBeside code c c.one (n ∷ Z) → ⊥
  pub closed : (n : ℕ) (Z : List ℕ) → IsPosition (IsMovable heap code) (n ∷ Z) → kept Z
      → kept (n ∷ Z) ⊎ IsCoveredBy IsLabel heap code c weight (n ∷ Z)

-- No position of heaps with options, but the empty one, is bad beside nothing.
abbrev pub AreNeverBad : {L : Type 0} → (ℕ → Type 0) → List ℕ → LabelClaim L → Type 0
AreNeverBad heap code c =
    (n : ℕ) (Z : List ℕ) → IsPosition (IsMovable heap code) (n ∷ Z)
    → IsBadBeside code c c.one (n ∷ Z) → ⊥
