-- To which classes heaps take the elements of a class. This project's own.
use Rattle.std.specs.Prelude.{◌≡◌, ℕ, ◌<◌, List, length, slice_index}
use Rattle.kept_positions.specs.Numbers.{LabelTables, ClassTurns, DoesTurn}
use Rattle.presented_text.specs.Said.{PresentedSaid}
use Rattle.presented_claims.specs.Claims.{heap_word, cycled}
use Rattle.presented_tables.specs.Elements.{place}
use Rattle.presented_tables.specs.Numbers.{HeapNumbers}
use Rattle.presented_claims.specs.Folds.{AreFiner}
use Rattle.class_tables.specs.Classes.{AreFolds, word_at, AreClasses, HaveFold}
use Rattle.class_tables.specs.Tables.{ClassLists}

-- No word is in the list twice: each stands where it stands first.
pub record AreFirsts (ws : List (List ℕ)) : Type 0 where
  pub each : (k : ℕ) → k < length ws → place ws (word_at ws k) ≡ k

-- A fold that is finer still, and its classes.
pub record FineClasses : Type 0 where
  pub folds : List (ℕ × ℕ)
  pub classes : List (List ℕ)

pub record AreFine (c : PresentedSaid) (l : ClassLists) (f : FineClasses) : Type 0 where
  pub folds : AreFolds c f.folds
  pub finer : AreFiner f.folds l.folds
  pub classes : AreClasses c f.folds f.classes

-- The heap of number g takes the elements of fine class k to those of class z.
pub record DoesTake (c : PresentedSaid) (l : ClassLists) (s : HeapNumbers) (f : FineClasses) (k g z : ℕ) : Type 0 where
  pub inside : z < length l.classes
  pub first : place l.classes (word_at l.classes z) ≡ z
  pub fold : HaveFold c f.folds l.folds (word_at f.classes k) (heap_word c (slice_index s.sizes g)) (word_at l.classes z)

-- Some class to which it takes them is in the list for the class of these elements.
abbrev pub IsTurned : PresentedSaid → ClassLists → HeapNumbers → FineClasses → LabelTables → ClassTurns → ℕ → ℕ → Type 0
IsTurned c l s f t u k g = (z : ℕ) × DoesTake c l s f k g z
    × DoesTurn t u (place l.classes (cycled l.folds (word_at f.classes k))) g z

-- The same of all fine classes and heaps.
abbrev pub AreTurned : PresentedSaid → ClassLists → HeapNumbers → LabelTables → ClassTurns → Type 0
AreTurned c l s t u = (f : FineClasses) × AreFine c l f
    × ((k g : ℕ) → k < length f.classes → g < t.heaps → IsTurned c l s f t u k g)
