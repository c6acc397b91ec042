-- What leaves a code and its heaps one presentation at most: letters that are no products of earlier ones, each of the
-- first heap that needs it, and least cycles and lists. The letters of Plambeck and Siegel's minimal generators, chosen
-- by rising heaps; that all of it is asked for is this project's own.
use Rattle.std.specs.Prelude.{◌≡◌, ℕ, ◌+◌, ◌-◌, ◌<◌, ◌≤◌, ◌⊎◌, true, List, length, slice_index, slice_index_or, is_some, Option, None, Some, All}
use Rattle.presentations.specs.declared.TheConstants.{LETTERS}
use Rattle.presentations.specs.Vectors.{plus, only}
use Rattle.presentations.specs.Congruences.{Related}
use Rattle.normal_forms.specs.Forms.{IsIn, AreIn}
use Rattle.presented_text.specs.Said.{PresentedSaid}
use Rattle.presented_claims.specs.Claims.{listed_heap, listed_word, has_word, in_portion}

-- ---- letters

-- A letter is the word of the heap n.
abbrev pub HasLetter : List ℕ → ℕ → Type 0
HasLetter letters n = (i : ℕ) × (i < length letters) × (slice_index letters i ≡ n)

-- The word has letters of smaller heaps than n alone.
abbrev pub IsInSmaller : List ℕ → ℕ → List ℕ → Type 0
IsInSmaller letters n w = (i : ℕ) → i < LETTERS → 0 < slice_index w i
    → (i < length letters) × (slice_index letters i < n)

-- The relations relate the word to one in letters of smaller heaps than n.
pub record IsOfSmaller (c : PresentedSaid) (n : ℕ) (w : List ℕ) : Type 0 where
  pub word : List ℕ
  pub long : length word ≡ LETTERS
  pub smaller : IsInSmaller c.letters n word
  pub related : Related LETTERS c.relations word w

-- The heap n is left out, or it is that of a letter, or its word is a product of letters of smaller heaps.
abbrev pub IsMade : PresentedSaid → ℕ → Option (List ℕ) → Type 0
IsMade c n None = Unit {0}
IsMade c n (Some w) = HasLetter c.letters n ⊎ IsOfSmaller c n w

-- So it is with each heap of the list.
abbrev pub AreMade : PresentedSaid → Type 0
AreMade c = (n : ℕ) → IsMade c n (listed_word c n)

-- No letter is a product of earlier ones.
abbrev pub AreNew : PresentedSaid → Type 0
AreNew c = (i : ℕ) (w : List ℕ) → i < length c.letters → length w ≡ LETTERS → IsIn i w
    → Related LETTERS c.relations w (only LETTERS i 1) → ⊥

-- ---- cycles

-- From start on the portion repeats along letter i after so many.
abbrev pub RepeatsAlong : PresentedSaid → ℕ → ℕ → ℕ → Type 0
RepeatsAlong c i start period = (w : List ℕ) → length w ≡ LETTERS → start ≤ slice_index w i
    → in_portion c (plus w (only LETTERS i period)) ≡ in_portion c w

-- The cycle's period is the least one from its start on, and the period serves from no earlier start.
pub record IsLeastCycle (c : PresentedSaid) (i : ℕ) (cycle : ℕ × ℕ) : Type 0 where
  pub least : (p : ℕ) → 0 < p → p < cycle.1 → RepeatsAlong c i cycle.0 p → ⊥
  pub earliest : 0 < cycle.0 → RepeatsAlong c i (cycle.0 - 1) cycle.1 → ⊥

abbrev pub AreLeastCycles : PresentedSaid → Type 0
AreLeastCycles c = (i : ℕ) (d : ℕ × ℕ) → i < length c.cycles → IsLeastCycle c i (slice_index_or c.cycles i d)

-- ---- heaps

-- From start on the heaps' words repeat after so many.
abbrev pub WordsRepeat : PresentedSaid → ℕ → ℕ → Type 0
WordsRepeat c start period = (n : ℕ) → start ≤ n
    → listed_word c (listed_heap c (n + period)) ≡ listed_word c (listed_heap c n)

-- The list is as short as can be: its last heap has a word if no other heaps count; else some heap behind it has one,
-- the period is the least, and it serves from no earlier heap.
pub record IsLeastList (c : PresentedSaid) : Type 0 where
  pub last : c.period ≡ 0 → is_some (listed_word c c.heaps) ≡ true
  pub some : 0 < c.period → (n : ℕ) × (c.heaps < n) × (has_word c n ≡ true)
  pub least : (p : ℕ) → 0 < p → p < c.period → WordsRepeat c (c.heaps - c.period + 1) p → ⊥
  pub earliest : 0 < c.period → c.period < c.heaps → WordsRepeat c (c.heaps - c.period) c.period → ⊥

-- ---- all of this

-- No letters but those that are named occur in relations and portion.
pub record AreWithin (c : PresentedSaid) : Type 0 where
  pub relations : AreIn (length c.letters) c.relations
  pub portion : All (IsIn (length c.letters)) c.portion

-- No other letters occur, and cycles and list are the least ones.
pub record IsLeast (c : PresentedSaid) : Type 0 where
  pub within : AreWithin c
  pub cycles : AreLeastCycles c
  pub list : IsLeastList c

-- Nor is there a letter too many: each is that of the first heap that is no product of smaller ones, and so on.
pub record IsOnly (c : PresentedSaid) : Type 0 where
  pub least : IsLeast c
  pub made : AreMade c
  pub new : AreNew c
