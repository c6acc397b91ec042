-- What tells two positions of a whole game apart. This project's own.
use Rattle.std.specs.Prelude.{◌≢◌, ◌≤◌, ◌⊎◌, ◌++◌, ℕ, List}
use Rattle.misere_theory.specs.Games.{IsHeap, IsPosition, Indistinguishable}
use Rattle.positions.specs.Outcomes.{HasOutcome}
use Rattle.positions.specs.declared.outcome.Outcome.{Outcome}
use Rattle.dominance.specs.Triples.{triple_of}
use Rattle.dominance_text.specs.Said.{DominanceSaid}
use Rattle.dominance_text.specs.Labels.{label_of}
use Rattle.label_players.specs.declared.triples.TheConstants.{LARGEST_SUM}
use Rattle.label_players.specs.declared.whole_telling.Separation.{Separation}
use Rattle.label_players.specs.declared.whole_telling.Separation.TheVariants.{Nothing, By, Untried, Heavy}

-- Beside Z the positions X and Y have these outcomes, which differ.
pub record AreApartBy (code X Y Z : List ℕ) (first second : Outcome) : Type 0 where
  pub position : IsPosition IsHeap Z
  pub one : HasOutcome code (X ++ Z) first
  pub other : HasOutcome code (Y ++ Z) second
  pub differ : first ≢ second

-- The position weighs 2^100 or more.
abbrev pub IsHeavy : DominanceSaid → List ℕ → Type 0
IsHeavy c X = LARGEST_SUM ≤ (triple_of (label_of c) X).weight

-- What is said to tell X and Y apart does. Nothing, if they are indistinguishable; and if something is said
-- to do so that isn't named, they aren't.
abbrev pub IsTelling : {A : Type 0} → DominanceSaid → List ℕ → List ℕ → Separation A → Type 0
IsTelling c X Y Nothing = Indistinguishable IsHeap c.code X Y
IsTelling c X Y (By Z first second) = AreApartBy c.code X Y Z first second
IsTelling c X Y Untried = Indistinguishable IsHeap c.code X Y → ⊥
IsTelling c X Y Heavy = IsHeavy c X ⊎ IsHeavy c Y
