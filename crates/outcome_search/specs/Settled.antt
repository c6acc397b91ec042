-- When a list of positions, each with an outcome, settles the outcome of one of them. Misère
-- outcomes: Siegel, 'Combinatorial Game Theory', chapter V; such lists are this project's own.
use Rattle.std.specs.Prelude.{ℕ, ◌≤◌, ◌⊎◌, List, length, Contains, IsPermutation}
use Rattle.misere_theory.specs.Games.{Move}
use Rattle.positions.specs.declared.outcome.Outcome.{Outcome}
use Rattle.positions.specs.declared.outcome.Outcome.TheVariants.{P, N}

-- the list has Y with this outcome, whatever the order of its heaps
abbrev pub Lists : List (List ℕ × Outcome) → List ℕ → Outcome → Type 0
Lists list Y o = (Z : List ℕ) × Contains list (Z, o) × IsPermutation Z Y

-- X has this outcome by those that the list has of positions to which moves lead.
abbrev pub Follows : List ℕ → List (List ℕ × Outcome) → List ℕ → Outcome → Type 0
Follows code list X P = ((Y : List ℕ) × Move code X Y)
    × ((Y : List ℕ) → Move code X Y → Lists list Y N)
Follows code list X N = ((Y : List ℕ) → Move code X Y → ⊥)
    ⊎ ((Y : List ℕ) × Move code X Y × Lists list Y P)

-- At most n positions, X with this outcome among them, of which each has its outcome by those of
-- the others.
pub record IsSettledBy (code X : List ℕ) (o : Outcome) (n : ℕ) : Type 0 where
  pub list : List (List ℕ × Outcome)
  pub few : length list ≤ n
  pub here : Contains list (X, o)
  pub follows : (Y : List ℕ) (p : Outcome) → Contains list (Y, p) → Follows code list Y p
