-- What tells two positions apart. This project's own.
use Rattle.std.specs.Prelude.{◌≢◌, ◌++◌, ℕ, List}
use Rattle.misere_theory.specs.Games.{Indistinguishable}
use Rattle.positions.specs.Outcomes.{HasOutcome}
use Rattle.positions.specs.declared.outcome.Outcome.{Outcome}
use Rattle.presented_tables.specs.Tested.{HasWord}
use Rattle.presented_checker.specs.Refused.{Kept}
use Rattle.label_players.specs.declared.whole_telling.Separation.{Separation}
use Rattle.label_players.specs.declared.whole_telling.Separation.TheVariants.{Nothing, By, Untried, Heavy}
use Rattle.label_players.specs.Plays.{SpeaksOf}

-- Beside Z, of which the presentation speaks, the positions X and Y have these outcomes, which differ.
pub record AreApartBy (k : Kept) (X Y Z : List ℕ) (first second : Outcome) : Type 0 where
  pub position : SpeaksOf k Z
  pub one : HasOutcome k.said.code (X ++ Z) first
  pub other : HasOutcome k.said.code (Y ++ Z) second
  pub differ : first ≢ second

-- What is said to tell X and Y apart does. Nothing, if they are indistinguishable; and if something is said to do so that
-- isn't named, they aren't. No position is too heavy.
abbrev pub IsTelling : {A : Type 0} → Kept → List ℕ → List ℕ → Separation A → Type 0
IsTelling k X Y Nothing = Indistinguishable (HasWord k.said) k.said.code X Y
IsTelling k X Y (By Z first second) = AreApartBy k X Y Z first second
IsTelling k X Y Untried = Indistinguishable (HasWord k.said) k.said.code X Y → ⊥
IsTelling k X Y Heavy = ⊥
