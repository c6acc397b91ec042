-- When marks of classes say which labels are in a portion. This project's own.
use Rattle.std.specs.Prelude.{◌≡◌, ℕ, ◌<◌, Bool, List}
use Rattle.misere_theory.specs.Labels.{LabelClaim}
use Rattle.kept_positions.specs.Numbers.{LabelTables}
use Rattle.kept_positions.specs.Numbering.{Numbering}
use Rattle.kept_positions.specs.Told.{mark_of}

-- Each label has a class, each number of a label is that of one, and the mark of the image of a class beside a label
-- says whether the product is in the portion.
pub record AreMarksOf {L : Type 0} (IsLabel : L → Type 0) (c : LabelClaim L) (b : Numbering L)
    (t : LabelTables) (marks : List Bool) : Type 0 where
  pub classes : (x : L) → IsLabel x → b.class x < t.classes
  pub labels : (w : ℕ) → w < t.labels → IsLabel (b.label w)
  pub marked : (x : L) (w : ℕ) → IsLabel x → w < t.labels
      → mark_of t marks w (b.class x) ≡ c.portion (c.times x (b.label w))

-- Each class has at most one label.
abbrev pub AreAlone : {L : Type 0} → (L → Type 0) → Numbering L → Type 0
AreAlone {L} IsLabel b = (x y : L) → IsLabel x → IsLabel y → b.class x ≡ b.class y → x ≡ y
