-- Which classes of labels are told apart by a label beside which just one of the two is in the portion, in numbers.
-- This project's own.
use Rattle.std.specs.Prelude.{◌≡◌, ◌≢◌, ℕ, ◌<◌, Bool, false, List, slice_index_or}
use Rattle.kept_positions.specs.Numbers.{LabelTables, entry}
use Rattle.kept_positions.specs.declared.telling.NotTold.{NotTold}
use Rattle.kept_positions.specs.declared.telling.NotTold.TheVariants.{Alike, Undecided, Memory}

-- Whether the labels of class x are in the portion, beside label w: the mark of their image.
abbrev pub mark_of : LabelTables → List Bool → ℕ → ℕ → Bool
mark_of t marks w x = slice_index_or marks (entry t.images t.classes w x) false

-- Some label tells classes x and y apart.
abbrev pub IsTold : LabelTables → List Bool → ℕ → ℕ → Type 0
IsTold t marks x y = (w : ℕ) × (w < t.labels) × (mark_of t marks w x ≢ mark_of t marks w y)

-- No label does.
abbrev pub AreAlike : LabelTables → List Bool → ℕ → ℕ → Type 0
AreAlike t marks x y = (w : ℕ) → w < t.labels → mark_of t marks w x ≡ mark_of t marks w y

-- Each two classes are told apart.
abbrev pub AreTold : LabelTables → List Bool → Type 0
AreTold t marks = (x y : ℕ) → y < x → x < t.classes → IsTold t marks x y

-- The two classes of a refusal are different, and no label tells them apart.
abbrev pub IsTrueOf : LabelTables → List Bool → NotTold → Type 0
IsTrueOf t marks (Alike x y) = (y < x) × (x < t.classes) × AreAlike t marks x y
IsTrueOf t marks Undecided = Unit {0}
IsTrueOf t marks (Memory m) = Unit {0}
