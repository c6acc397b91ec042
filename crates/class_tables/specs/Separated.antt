-- When two classes are told apart, in numbers and by normal forms. This project's own.
use Rattle.std.specs.Prelude.{◌≡◌, ◌≢◌, ℕ, ◌+◌, ◌%◌, ◌<◌, ◌⊎◌, Bool, false, List, length, slice_index, slice_index_or}
use Rattle.kept_positions.specs.Numbers.{LabelTables}
use Rattle.kept_positions.specs.Told.{IsTold}
use Rattle.presented_text.specs.Said.{PresentedSaid}
use Rattle.presented_claims.specs.Claims.{in_portion}
use Rattle.presented_claims.specs.Folds.{at_letter}
use Rattle.presented_claims.specs.Led.{weight_of, RunsOn}
use Rattle.class_tables.specs.Leads.{Led, turn_of, Leads}
use Rattle.class_tables.specs.Classes.{word_at}
use Rattle.class_tables.specs.Tables.{ClassLists}

-- The marks say which images are in the portion.
abbrev pub AreBits : PresentedSaid → ClassLists → List Bool → Type 0
AreBits c l bits = (k : ℕ) → k < length l.images → slice_index_or bits k false ≡ in_portion c (word_at l.images k)

-- Of letter i, the words to which two classes are led never have the same: by the remainder, or since it stays as it is in
-- the one that has less of it.
pub data DoDiffer (tops folds : List (ℕ × ℕ)) (a b : List ℕ) (one other : Led) (i : ℕ) : Type 0 where
  ByRemainder : i < length tops
      → (slice_index one.to i % (at_letter tops i).1 ≢ slice_index other.to i % (at_letter tops i).1)
      → DoDiffer tops folds a b one other i
  StaysBelow : slice_index one.to i < slice_index other.to i
      → ((j : ℕ) → RunsOn folds a j → slice_index (turn_of one j) i ≡ 0)
      → DoDiffer tops folds a b one other i
  StaysAbove : slice_index other.to i < slice_index one.to i
      → ((j : ℕ) → RunsOn folds b j → slice_index (turn_of other j) i ≡ 0)
      → DoDiffer tops folds a b one other i

-- Letter j turns into some letter into which no other one turns that runs on in the class.
pub record HasOwn (folds : List (ℕ × ℕ)) (a : List ℕ) (one : Led) (j : ℕ) : Type 0 where
  pub own : ℕ
  pub some : 0 < slice_index (turn_of one j) own
  pub alone : (k : ℕ) → RunsOn folds a k → j ≢ k → slice_index (turn_of one k) own ≡ 0

-- Each letter that runs on in the class does.
abbrev pub HaveOwn : List (ℕ × ℕ) → List ℕ → Led → Type 0
HaveOwn folds a one = (j : ℕ) → RunsOn folds a j → HasOwn folds a one j

-- Label w leads the two classes to lighter words, which are never the same.
pub record AreLowered (c : PresentedSaid) (l : ClassLists) (weights : List ℕ) (x y w : ℕ) : Type 0 where
  pub inside : w < length l.labels
  pub one : Led
  pub other : Led
  pub leads : Leads c l.base l.folds weights (word_at l.classes x) (word_at l.labels w) one
  pub leads_other : Leads c l.base l.folds weights (word_at l.classes y) (word_at l.labels w) other
  pub lighter : weight_of weights one.to + weight_of weights other.to
      < weight_of weights (word_at l.classes x) + weight_of weights (word_at l.classes y)
  pub differ : (i : ℕ) × DoDiffer l.base l.folds (word_at l.classes x) (word_at l.classes y) one other i

-- Label w leads the class to lighter words, different ones to different ones.
pub record IsLowered (c : PresentedSaid) (l : ClassLists) (weights : List ℕ) (x w : ℕ) : Type 0 where
  pub inside : w < length l.labels
  pub one : Led
  pub leads : Leads c l.base l.folds weights (word_at l.classes x) (word_at l.labels w) one
  pub lighter : weight_of weights one.to < weight_of weights (word_at l.classes x)
  pub own : HaveOwn l.folds (word_at l.classes x) one

-- Each two classes are told apart by a label, or lowered; and each class has one word, or is lowered.
pub record AreSettledClasses (c : PresentedSaid) (l : ClassLists) (t : LabelTables) (bits : List Bool) (weights : List ℕ)
    : Type 0 where
  pub pairs : (x y : ℕ) → y < x → x < length l.classes
      → IsTold t bits x y ⊎ ((w : ℕ) × AreLowered c l weights x y w)
  pub classes : (x : ℕ) → x < length l.classes
      → ((j : ℕ) → RunsOn l.folds (word_at l.classes x) j → ⊥) ⊎ ((w : ℕ) × IsLowered c l weights x w)
