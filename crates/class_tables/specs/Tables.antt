-- The tables of classes. This project's own.
use Rattle.std.specs.Prelude.{◌≡◌, ℕ, ◌<◌, Bool, true, false, List, [], length, slice_index, slice_index_or}
use Rattle.presentations.specs.declared.TheConstants.{LETTERS}
use Rattle.presentations.specs.Vectors.{plus, zeros}
use Rattle.presentations.specs.Congruences.{Related}
use Rattle.kept_positions.specs.Numbers.{LabelTables}
use Rattle.presented_text.specs.Said.{PresentedSaid}
use Rattle.presented_claims.specs.Claims.{heap_word, IsElement, in_portion}
use Rattle.presented_tables.specs.Numbers.{HeapNumbers, AreNumbers}
use Rattle.presented_tables.specs.Rows.{AreRows}
use Rattle.presented_tables.specs.declared.beside.Beside.TheVariants.{Bad, Good}
use Rattle.presented_claims.specs.Folds.{AreFiner}
use Rattle.class_tables.specs.Classes.{AreFolds, word_at, AreClasses, HaveFold, AreBeside}

-- Three folds, each finer than the one before: on a class of the second one each heap does the same, and on a class of
-- the third one each label leads to one class of the second. The classes of both; and the labels.
pub record ClassLists : Type 0 where
  pub base : List (ℕ × ℕ)
  pub tops : List (ℕ × ℕ)
  pub folds : List (ℕ × ℕ)
  pub images : List (List ℕ)
  pub classes : List (List ℕ)
  pub labels : List (List ℕ)

-- The first fold keeps the portion apart; the classes are all of them; and the labels are elements, the first one that of
-- nothing.
pub record AreLists (c : PresentedSaid) (l : ClassLists) : Type 0 where
  pub base : AreFolds c l.base
  pub finer : AreFiner l.base c.cycles
  pub tops : AreFolds c l.tops
  pub finer_tops : AreFiner l.tops c.cycles
  pub folds : AreFolds c l.folds
  pub images : AreClasses c l.tops l.images
  pub classes : AreClasses c l.folds l.classes
  pub some : 0 < length l.labels
  pub first : word_at l.labels 0 ≡ zeros LETTERS
  pub labels : (w : ℕ) → w < length l.labels → IsElement c (word_at l.labels w)

-- Label w leads class x to image k.
pub record IsImage (c : PresentedSaid) (l : ClassLists) (w x k : ℕ) : Type 0 where
  pub inside : k < length l.images
  pub fold : HaveFold c l.folds l.tops (word_at l.classes x) (word_at l.labels w) (word_at l.images k)

-- Label w with the heap of number g is label v, or there is none.
abbrev pub IsNext : PresentedSaid → ClassLists → HeapNumbers → ℕ → ℕ → ℕ → Type 0
IsNext c l s w g v = v < length l.labels
    → Related LETTERS c.relations (plus (word_at l.labels w) (heap_word c (slice_index s.sizes g))) (word_at l.labels v)

-- Whether the heap of number g is bad beside the elements of image k.
abbrev pub IsMark : PresentedSaid → ClassLists → HeapNumbers → ℕ → ℕ → Bool → Type 0
IsMark c l s k g true = AreBeside c l.tops (word_at l.images k) (slice_index s.sizes g) Bad
IsMark c l s k g false = AreBeside c l.tops (word_at l.images k) (slice_index s.sizes g) Good

-- The tables of labels.
pub record AreClassTables (c : PresentedSaid) (l : ClassLists) (s : HeapNumbers) (t : LabelTables) : Type 0 where
  pub numbers : AreNumbers c s
  pub heaps : t.heaps ≡ length s.sizes
  pub labels : t.labels ≡ length l.labels
  pub classes : t.classes ≡ length l.classes
  pub start : t.start ≡ 0
  pub images : AreRows (IsImage c l) (length l.labels) (length l.classes) 0 t.images
  pub next : AreRows (IsNext c l s) (length l.labels) (length s.sizes) 0 t.next
  pub bad : AreRows (IsMark c l s) (length l.images) (length s.sizes) true t.bad
