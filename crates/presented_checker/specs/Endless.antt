-- Presentations with infinitely many elements. This project's own.
use Rattle.std.specs.Prelude.{ℕ, ◌<◌, List, length}
use Rattle.presentations.specs.declared.TheConstants.{LETTERS}
use Rattle.presentations.specs.Vectors.{only}
use Rattle.presented_text.specs.Said.{PresentedSaid}
use Rattle.kept_positions.specs.Numbers.{KeptPositions, AreFamiliesTested}
use Rattle.presented_claims.specs.Claims.{IsElement}
use Rattle.class_tables.specs.Separated.{AreSettledClasses}
use Rattle.class_tables.specs.Tested.{ClassTables, AreTestedClasses}

-- Each power of some letter is an element: so there are infinitely many.
abbrev pub IsEndless : PresentedSaid → Type 0
IsEndless c = (i : ℕ) × (i < length c.letters) × ((k : ℕ) → IsElement c (only LETTERS i k))

-- By some weights of letters the classes are settled.
abbrev pub AreSettled : PresentedSaid → ClassTables → Type 0
AreSettled c v = (weights : List ℕ) × AreSettledClasses c v.lists v.tables v.bits weights

-- By the tables of some classes, kept positions pass the test.
pub record HaveKept (c : PresentedSaid) : Type 0 where
  pub tables : ClassTables
  pub tested : AreTestedClasses c tables
  pub kept : (k : KeptPositions) × AreFamiliesTested tables.tables tables.turns k

-- Some classes are settled. They may be others than those beside which positions are kept.
pub record HaveSettled (c : PresentedSaid) : Type 0 where
  pub tables : ClassTables
  pub tested : AreTestedClasses c tables
  pub settled : AreSettled c tables
