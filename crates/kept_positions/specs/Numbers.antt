-- What is tested of kept positions, in numbers: heaps, labels and classes of labels are numbered, and tables say
-- what they come to. This project's own.
use Rattle.std.specs.Prelude.{◌≡◌, ℕ, ◌+◌, ◌-◌, ◌*◌, ◌<◌, ◌≤◌, ◌⊎◌, Bool, true, false, List, [], slice_index, slice_index_or}

-- Entry y of row x, the rows being so wide and lying one after another.
abbrev pub entry : List ℕ → ℕ → ℕ → ℕ → ℕ
entry xs width x y = slice_index xs (x * width + y)

-- How many heaps, labels and classes there are; the class of the label of nothing, which is label 0; the image of
-- label w beside class x; which heaps are bad beside which image; label w with heap g more; and the heaps' weights.
pub record LabelTables : Type 0 where
  pub heaps : ℕ
  pub labels : ℕ
  pub classes : ℕ
  pub start : ℕ
  pub images : List ℕ
  pub bad : List Bool
  pub next : List ℕ
  pub weights : List ℕ

-- Where the labels of a class go with a heap more: the classes of entry x of row g are those from number `first` of it
-- on up to that of the next entry.
pub record ClassTurns : Type 0 where
  pub first : List ℕ
  pub onto : List ℕ

-- Nowhere is said where they go.
abbrev pub no_turns : ClassTurns
no_turns = record { first = []; onto = [] }

-- Positions that are found: of each its label and its weight. Each of its heaps is one of its entries, those of
-- position i from number `first` i on up to that of the next position: the heap, and the label of the others.
-- A position for heap g more than position i: one to which it comes, or none if it is covered. And which heaps are free
-- at position i: it stands for all positions with any more of these heaps.
pub record KeptPositions : Type 0 where
  pub count : ℕ
  pub labels : List ℕ
  pub weights : List ℕ
  pub first : List ℕ
  pub heaps : List ℕ
  pub others : List ℕ
  pub parents : List ℕ
  pub onward : List ℕ
  pub free : List Bool

-- Beside class x, with label w, heap g is bad.
abbrev pub is_bad : LabelTables → ℕ → ℕ → ℕ → Bool
is_bad t x w g = slice_index_or t.bad (entry t.images t.classes w x * t.heaps + g) true

-- Heap g is free at position i.
abbrev pub IsFree : LabelTables → KeptPositions → ℕ → ℕ → Type 0
IsFree t k i g = slice_index_or k.free (i * t.heaps + g) false ≡ true

-- With heap g more, labels of class x may have the class z.
abbrev pub DoesTurn : LabelTables → ClassTurns → ℕ → ℕ → ℕ → Type 0
DoesTurn t u x g z =
    (o : ℕ) × (slice_index u.first (g * t.classes + x) ≤ o)
    × (o < slice_index u.first (g * t.classes + x + 1)) × (slice_index u.onto o ≡ z)

-- The class is marked.
abbrev pub IsMarked : List Bool → ℕ → Type 0
IsMarked marks x = slice_index_or marks x false ≡ true

-- Number o is one of an entry of position i.
abbrev pub IsEntryOf : KeptPositions → ℕ → ℕ → Type 0
IsEntryOf k i o = (slice_index k.first i ≤ o) × (o < slice_index k.first (i + 1))

-- Beside class x, position i is bad.
abbrev pub IsBadAt : LabelTables → KeptPositions → ℕ → ℕ → Type 0
IsBadAt t k i x =
    (o : ℕ) → IsEntryOf k i o → is_bad t x (slice_index k.others o) (slice_index k.heaps o) ≡ true

-- Beside class x, position i with heap g more is bad.
pub record IsBadWith (t : LabelTables) (k : KeptPositions) (i g x : ℕ) : Type 0 where
  pub added : is_bad t x (slice_index k.labels i) g ≡ true
  pub rest : (o : ℕ) → IsEntryOf k i o → entry t.next t.heaps (slice_index k.others o) g < t.labels
      → is_bad t x (entry t.next t.heaps (slice_index k.others o) g) (slice_index k.heaps o) ≡ true

-- The label and the weight of position i with heap g more.
abbrev pub label_with : LabelTables → KeptPositions → ℕ → ℕ → ℕ
label_with t k i g = entry t.next t.heaps (slice_index k.labels i) g

abbrev pub weight_with : LabelTables → KeptPositions → ℕ → ℕ → ℕ
weight_with t k i g = slice_index t.weights g + slice_index k.weights i

-- Entry m after number `from` is entry m from number `start` on, with heap g more.
pub record IsShifted (t : LabelTables) (k : KeptPositions) (from start g m : ℕ) : Type 0 where
  pub heap : slice_index k.heaps (from + 1 + m) ≡ slice_index k.heaps (start + m)
  pub others : slice_index k.others (from + 1 + m)
      ≡ entry t.next t.heaps (slice_index k.others (start + m)) g
  pub others_in : slice_index k.others (from + 1 + m) < t.labels

-- The entries of position j are one whose others are position i, and those of position i with heap g more.
pub record HasEntriesOf (t : LabelTables) (k : KeptPositions) (j i g : ℕ) : Type 0 where
  pub in_order : slice_index k.first i ≤ slice_index k.first (i + 1)
  pub some : slice_index k.first j < slice_index k.first (j + 1)
  pub as_many : slice_index k.first (j + 1) - slice_index k.first j - 1
      ≡ slice_index k.first (i + 1) - slice_index k.first i
  pub added : slice_index k.others (slice_index k.first j) ≡ slice_index k.labels i
  pub shifted : (m : ℕ) → m < slice_index k.first (i + 1) - slice_index k.first i
      → IsShifted t k (slice_index k.first j) (slice_index k.first i) g m

-- Position j is position i with heap g more.
pub record IsMadeOf (t : LabelTables) (k : KeptPositions) (j i g : ℕ) : Type 0 where
  pub parent : i < j
  pub heap : g < t.heaps
  pub first : slice_index k.heaps (slice_index k.first j) ≡ g
  pub label : slice_index k.labels j ≡ label_with t k i g
  pub label_in : slice_index k.labels j < t.labels
  pub weight : slice_index k.weights j ≡ weight_with t k i g
  pub entries : HasEntriesOf t k j i g

-- Position 0 is the empty one.
pub record IsEmptyFound (k : KeptPositions) : Type 0 where
  pub some : 0 < k.count
  pub label : slice_index k.labels 0 ≡ 0
  pub weight : slice_index k.weights 0 ≡ 0
  pub none : slice_index k.first 1 ≤ slice_index k.first 0

-- Beside class x, position i with heap g more isn't bad, or a lighter position of the same label is.
pub data IsCoveredAt (t : LabelTables) (k : KeptPositions) (i g x : ℕ) : Type 0 where
  Empty : label_with t k i g ≡ 0 → 0 < weight_with t k i g → IsCoveredAt t k i g x
  By : (j : ℕ) → 0 < j → j < k.count → slice_index k.labels j ≡ label_with t k i g
      → slice_index k.weights j < weight_with t k i g → IsBadAt t k j x → IsCoveredAt t k i g x

-- Position j has the label of position i with heap g more, is no heavier, is bad wherever that is, and what is free at
-- i is free at j.
pub record Comes (t : LabelTables) (k : KeptPositions) (i g j : ℕ) : Type 0 where
  pub some : 0 < j
  pub found : j < k.count
  pub label : slice_index k.labels j ≡ label_with t k i g
  pub weight : slice_index k.weights j ≤ weight_with t k i g
  pub bad : (x : ℕ) → x < t.classes → IsBadWith t k i g x → IsBadAt t k j x
  pub free : (h : ℕ) → h < t.heaps → IsFree t k i h → IsFree t k j h

-- Position i with heap g more has a label, isn't bad beside nothing, and comes to a position or is covered.
pub record IsClosedWith (t : LabelTables) (k : KeptPositions) (i g : ℕ) : Type 0 where
  pub label_in : label_with t k i g < t.labels
  pub never_bad : IsBadWith t k i g t.start → ⊥
  pub onward : ((j : ℕ) × Comes t k i g j)
      ⊎ ((x : ℕ) → x < t.classes → IsBadWith t k i g x → IsCoveredAt t k i g x)

-- If heap g is free at position i, each class to which class x comes by it is marked.
abbrev pub IsClosedBy : LabelTables → ClassTurns → KeptPositions → ℕ → List Bool → ℕ → ℕ → Type 0
IsClosedBy t u k i marks x g = (z : ℕ) → IsFree t k i g → DoesTurn t u x g z → IsMarked marks z

-- Position i isn't bad beside class x, and each class to which this comes by free heaps is marked.
pub record IsGoodClass (t : LabelTables) (u : ClassTurns) (k : KeptPositions) (i : ℕ) (marks : List Bool) (x : ℕ)
    : Type 0 where
  pub good : IsBadAt t k i x → ⊥
  pub closed : (g : ℕ) → g < t.heaps → IsClosedBy t u k i marks x g

-- The class of nothing is marked, and each marked class is such a one. So beside nothing no position is bad that is
-- position i and any more of the heaps that are free at it.
pub record IsFamily (t : LabelTables) (u : ClassTurns) (k : KeptPositions) (i : ℕ) (marks : List Bool) : Type 0
  where
    pub start : IsMarked marks t.start
    pub classes : (x : ℕ) → x < t.classes → IsMarked marks x → IsGoodClass t u k i marks x

-- All that is tested.
pub record AreFamiliesTested (t : LabelTables) (u : ClassTurns) (k : KeptPositions) : Type 0 where
  pub empty : IsEmptyFound k
  pub none_free : (g : ℕ) → g < t.heaps → IsFree t k 0 g → ⊥
  pub labels : 0 < t.labels
  pub made : (j : ℕ) → 1 ≤ j → j < k.count → (i : ℕ) × (g : ℕ) × IsMadeOf t k j i g
  pub families : (i : ℕ) → 1 ≤ i → i < k.count → (marks : List Bool) × IsFamily t u k i marks
  pub closed : (i g : ℕ) → i < k.count → g < t.heaps → IsFree t k i g ⊎ IsClosedWith t k i g

-- The same, where no heap is free at any position.
pub record AreFoundTested (t : LabelTables) (k : KeptPositions) : Type 0 where
  pub tested : AreFamiliesTested t no_turns k
  pub none_free : (i g : ℕ) → IsFree t k i g → ⊥
