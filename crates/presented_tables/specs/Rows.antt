-- What stands in the tables of labels. This project's own.
use Rattle.std.specs.Prelude.{◌≡◌, ℕ, ◌*◌, ◌+◌, ◌/◌, ◌%◌, ◌<◌, Bool, true, false, List, length, slice_index, slice_index_or}
use Rattle.kept_positions.specs.Numbers.{LabelTables}
use Rattle.presented_text.specs.Said.{PresentedSaid}
use Rattle.presented_claims.specs.Claims.{heap_word}
use Rattle.presented_tables.specs.Elements.{ListedElements, element, Takes}
use Rattle.presented_tables.specs.Numbers.{HeapNumbers, AreNumbers}
use Rattle.presented_tables.specs.Beside.{IsBeside}
use Rattle.presented_tables.specs.declared.beside.Beside.TheVariants.{Bad, Good}

-- A list in rows of so many entries, each of which has a property.
pub record AreRows {X : Type 0} (P : ℕ → ℕ → X → Type 0) (count width : ℕ) (d : X) (xs : List X) : Type 0 where
  pub long : length xs ≡ count * width
  pub entries : (x y : ℕ) → x < count → y < width → P x y (slice_index_or xs (x * width + y) d)

-- The same of the first k entries, as far as rows are filled.
pub record AreFilled {X : Type 0} (P : ℕ → ℕ → X → Type 0) (width k : ℕ) (d : X) (xs : List X) : Type 0 where
  pub long : length xs ≡ k
  pub entries : (j : ℕ) → j < k → P (j / width) (j % width) (slice_index_or xs j d)

-- The product of elements w and x.
abbrev pub IsImage : PresentedSaid → ListedElements → ℕ → ℕ → ℕ → Type 0
IsImage c e w x y = Takes c e (element e w) x y

-- Element x with the heap of number g.
abbrev pub IsNext : PresentedSaid → ListedElements → HeapNumbers → ℕ → ℕ → ℕ → Type 0
IsNext c e s x g y = Takes c e (heap_word c (slice_index s.sizes g)) x y

-- The tables of these: all products, and each element with each heap.
abbrev pub AreImages : PresentedSaid → ListedElements → List ℕ → Type 0
AreImages c e xs = AreRows (IsImage c e) (length e.words) (length e.words) 0 xs

abbrev pub AreNexts : PresentedSaid → ListedElements → HeapNumbers → List ℕ → Type 0
AreNexts c e s xs = AreRows (IsNext c e s) (length e.words) (length s.sizes) 0 xs

-- Whether the heap of number g is bad beside element x.
abbrev pub IsMark : PresentedSaid → ListedElements → HeapNumbers → ℕ → ℕ → Bool → Type 0
IsMark c e s x g true = IsBeside c (element e x) (slice_index s.sizes g) Bad
IsMark c e s x g false = IsBeside c (element e x) (slice_index s.sizes g) Good

-- The same in columns: row g is of the heap of that number.
abbrev pub IsColumnMark : PresentedSaid → ListedElements → HeapNumbers → ℕ → ℕ → Bool → Type 0
IsColumnMark c e s g x b = IsMark c e s x g b

-- The tables of labels: each element is a label and a class.
pub record AreLabelTables (c : PresentedSaid) (e : ListedElements) (s : HeapNumbers) (t : LabelTables) : Type 0 where
  pub numbers : AreNumbers c s
  pub heaps : t.heaps ≡ length s.sizes
  pub labels : t.labels ≡ length e.words
  pub classes : t.classes ≡ length e.words
  pub start : t.start ≡ 0
  pub images : AreRows (IsImage c e) (length e.words) (length e.words) 0 t.images
  pub next : AreRows (IsNext c e s) (length e.words) (length s.sizes) 0 t.next
  pub bad : AreRows (IsMark c e s) (length e.words) (length s.sizes) true t.bad
