-- What is tested of a presentation by classes. This project's own.
use Rattle.std.specs.Prelude.{◌≡◌, ℕ, ◌+◌, Bool, List, length}
use Rattle.misere_theory.specs.Parts.{IsPart}
use Rattle.presentations.specs.declared.TheConstants.{LETTERS}
use Rattle.normal_forms.specs.Reductions.{AreConvergent}
use Rattle.normal_forms.specs.Forms.{NormalForms, AreIn}
use Rattle.kept_positions.specs.Kept.{AreNeverBad}
use Rattle.kept_positions.specs.Presented.{AreTestedLabels}
use Rattle.kept_positions.specs.Telling.{AreToldOrLowered}
use Rattle.kept_positions.specs.Numbers.{LabelTables, ClassTurns}
use Rattle.kept_positions.specs.Numbering.{Numbering, AreTablesOf, AreTurnsOf}
use Rattle.presented_text.specs.Said.{PresentedSaid}
use Rattle.presented_claims.specs.Claims.{IsElement, claim_of}
use Rattle.presented_tables.specs.Tested.{HasWord}
use Rattle.presented_claims.specs.Led.{weight_of}
use Rattle.class_tables.specs.Tables.{ClassLists, AreLists}
use Rattle.class_tables.specs.Separated.{AreBits, AreSettledClasses}

-- The lists of classes, the tables of labels over them, where heaps take classes, and which images are in the portion.
pub record ClassTables : Type 0 where
  pub lists : ClassLists
  pub tables : LabelTables
  pub turns : ClassTurns
  pub bits : List Bool

-- All that is tested of a presentation: the tables and turns are those of the claim; no option leaves the heaps, and each
-- has an element; the labels have all that they must, but that no position is bad beside nothing; and where classes are
-- settled elements are told apart.
pub record AreTestedClasses (c : PresentedSaid) (v : ClassTables) : Type 0 where
  pub relations : AreIn (length c.letters) c.relations
  pub converges : AreConvergent LETTERS c.relations
  pub lists : AreLists c v.lists
  pub part : IsPart (HasWord c) c.code
  pub labels : (forms : NormalForms LETTERS c.relations) (n : ℕ) → HasWord c n
      → IsElement c ((claim_of c forms).label n)
  pub numbered : (forms : NormalForms LETTERS c.relations)
      → (b : Numbering (List ℕ)) × AreTablesOf (IsElement c) (HasWord c) c.code (claim_of c forms) b v.tables
      × AreTurnsOf (IsElement c) (claim_of c forms) b v.tables v.turns
  pub tested : (forms : NormalForms LETTERS c.relations)
      → AreNeverBad (HasWord c) c.code (claim_of c forms)
      → AreTestedLabels (IsElement c) (HasWord c) c.code (claim_of c forms)
  pub told : (forms : NormalForms LETTERS c.relations) (weights : List ℕ)
      → AreSettledClasses c v.lists v.tables v.bits weights
      → AreToldOrLowered (IsElement c) (claim_of c forms) (λ x y. weight_of weights x + weight_of weights y)
