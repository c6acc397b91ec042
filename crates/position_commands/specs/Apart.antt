-- What tells two positions apart. This project's own.
use Rattle.std.specs.Prelude.{◌≡◌, ◌≢◌, ◌≤◌, ◌↔◌, ◌⊎◌, ℕ, Bool, true, false, List, ◌++◌, length}
use Rattle.misere_theory.specs.Certificates.{Certificate, IsHeapOf}
use Rattle.misere_theory.specs.Games.{Indistinguishable, IsHeap, IsP, IsPosition}
use Rattle.positions.specs.Outcomes.{HasOutcome}
use Rattle.positions.specs.declared.outcome.Outcome.{Outcome}
use Rattle.dominance_text.specs.Said.{DominanceSaid}
use Rattle.label_players.specs.WholeTold.{AreApartBy, IsHeavy}
use Rattle.position_commands.specs.PlayLines.{beyond_line}
use Rattle.presented_checker.specs.Refused.{Kept}
use Rattle.label_players.specs.Plays.{SpeaksOf}
use Rattle.presented_tables.specs.Tested.{HasWord}
use Rattle.label_players.specs.Told.{AreApartBy as AreToldBy}
use Rattle.position_commands.specs.Lines.{alike_line, apart_line, heavy_line, untried_line}

-- X and Y are indistinguishable, and the text says so. Or Z tells them apart: the outcomes of X + Z and
-- Y + Z differ, and the text has Z and both. No position of fewer heaps tells X and Y apart.
pub data SaysApart (c : Certificate) (X Y text : List ℕ) : Type 0 where
  Alike : Indistinguishable (IsHeapOf c) c.code X Y → text ≡ alike_line → SaysApart c X Y text
  Apart : (Z : List ℕ) (first second : Outcome) → IsPosition (IsHeapOf c) Z
      → HasOutcome c.code (X ++ Z) first → HasOutcome c.code (Y ++ Z) second → first ≢ second
      → ((W : List ℕ) → IsPosition (IsHeapOf c) W
      → (IsP c.code (X ++ W) ↔ IsP c.code (Y ++ W) → ⊥) → length Z ≤ length W)
      → text ≡ apart_line Z first second → SaysApart c X Y text

-- The same in a whole game, where Z may have more heaps than is needed. Or X and Y aren't indistinguishable,
-- and the text says so without a Z; or one of them is heavy.
pub data SaysApartOfWhole (c : DominanceSaid) (X Y text : List ℕ) (succeeds : Bool) : Type 0 where
  Alike : Indistinguishable IsHeap c.code X Y → text ≡ alike_line → succeeds ≡ true
      → SaysApartOfWhole c X Y text succeeds
  Apart : (Z : List ℕ) (first second : Outcome) → AreApartBy c.code X Y Z first second
      → text ≡ apart_line Z first second → succeeds ≡ true → SaysApartOfWhole c X Y text succeeds
  Untried : (Indistinguishable IsHeap c.code X Y → ⊥) → text ≡ untried_line → succeeds ≡ true
      → SaysApartOfWhole c X Y text succeeds
  Heavy : IsHeavy c X ⊎ IsHeavy c Y → text ≡ heavy_line → succeeds ≡ false
      → SaysApartOfWhole c X Y text succeeds

-- The same by a presentation. Or it doesn't speak of one of them, and the text says so.
pub data SaysApartOfPresented (k : Kept) (X Y text : List ℕ) (succeeds : Bool) : Type 0 where
  Alike : Indistinguishable (HasWord k.said) k.said.code X Y → text ≡ alike_line → succeeds ≡ true
      → SaysApartOfPresented k X Y text succeeds
  Apart : (Z : List ℕ) (first second : Outcome) → AreToldBy k X Y Z first second
      → text ≡ apart_line Z first second → succeeds ≡ true → SaysApartOfPresented k X Y text succeeds
  Untried : (Indistinguishable (HasWord k.said) k.said.code X Y → ⊥) → text ≡ untried_line → succeeds ≡ true
      → SaysApartOfPresented k X Y text succeeds
  Beyond : (SpeaksOf k X × SpeaksOf k Y → ⊥) → text ≡ beyond_line → succeeds ≡ false
      → SaysApartOfPresented k X Y text succeeds
