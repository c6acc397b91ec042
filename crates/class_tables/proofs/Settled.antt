-- Classes that are settled, where there aren't too many letters.
use Rattle.std.proofs.Common.{ℕ, ◌≤◌, ◌⊎◌, Bool, List, length}
use Rattle.presentations.specs.declared.TheConstants.{LETTERS}
use Rattle.kept_positions.specs.Numbers.{LabelTables}
use Rattle.kept_positions.specs.Told.{IsTold}
use Rattle.presented_text.specs.Said.{PresentedSaid}
use Rattle.presented_claims.specs.Led.{RunsOn}
use Rattle.class_tables.specs.Classes.{word_at}
use Rattle.class_tables.specs.Tables.{ClassLists}
use Rattle.class_tables.specs.Separated.{AreLowered, IsLowered}

abbrev pub IsPairSettled : PresentedSaid → ClassLists → LabelTables → List Bool → List ℕ → ℕ → ℕ → Type 0
IsPairSettled c l t bits weights x y = length l.base ≤ LETTERS → length l.folds ≤ LETTERS
    → IsTold t bits x y ⊎ ((w : ℕ) × AreLowered c l weights x y w)

abbrev pub IsClassSettled : PresentedSaid → ClassLists → List ℕ → ℕ → Type 0
IsClassSettled c l weights x = length l.base ≤ LETTERS → length l.folds ≤ LETTERS
    → ((j : ℕ) → RunsOn l.folds (word_at l.classes x) j → ⊥) ⊎ ((w : ℕ) × IsLowered c l weights x w)
