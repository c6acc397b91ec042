-- What is tested of a presentation's tables. This project's own.
use Rattle.std.specs.Prelude.{◌≡◌, ℕ, ◌<◌, ◌≤◌, Bool, true, false, List, length}
use Rattle.misere_theory.specs.Games.{HeapOption}
use Rattle.misere_theory.specs.Parts.{IsPart}
use Rattle.presentations.specs.declared.TheConstants.{LETTERS}
use Rattle.presentations.specs.Vectors.{plus, zeros}
use Rattle.presentations.specs.Congruences.{Related}
use Rattle.normal_forms.specs.Forms.{NormalForms, IsNormalForm, IsIn, AreIn, word_of}
use Rattle.kept_positions.specs.Kept.{AreNeverBad}
use Rattle.kept_positions.specs.Presented.{AreTestedLabels}
use Rattle.kept_positions.specs.Numbers.{LabelTables, entry}
use Rattle.kept_positions.specs.Numbering.{Numbering, AreTablesOf}
use Rattle.presented_text.specs.Said.{PresentedSaid}
use Rattle.presented_claims.specs.Claims.{has_word, heap_word, in_portion, IsElement, claim_of}
use Rattle.presented_tables.specs.Elements.{ListedElements, element, Takes, AreElements}

-- Whether the normal form of the word x times the heaps' words is in the portion.
abbrev pub Says : PresentedSaid → List ℕ → List ℕ → Bool → Type 0
Says c x X b = (u : List ℕ)
    → IsNormalForm LETTERS c.relations (plus x (word_of LETTERS (heap_word c) X)) u
    → in_portion c u ≡ b

-- Beside the word x some option of the heap is in the portion.
abbrev pub SomeSays : PresentedSaid → List ℕ → ℕ → Type 0
SomeSays c x n = (H : List ℕ) × HeapOption c.code n H × Says c x H true

-- Beside the word x no option of the heap is.
abbrev pub NoneSays : PresentedSaid → List ℕ → ℕ → Type 0
NoneSays c x n = (H : List ℕ) → HeapOption c.code n H → Says c x H false

-- The elements, and the tables of labels for the test of kept positions.
pub record PresentedTables : Type 0 where
  pub elements : ListedElements
  pub tables : LabelTables

abbrev pub HasWord : PresentedSaid → ℕ → Type 0
HasWord c n = has_word c n ≡ true

-- All that is tested of a presentation: the elements are all there; products are in the rows of images; the tables
-- are those of the claim, an element's class and a label's number being its own; no option leaves the heaps, and each
-- has an element; and the labels have all that they must, but that no position is bad beside nothing.
pub record AreTestedTables (c : PresentedSaid) (t : PresentedTables) : Type 0 where
  pub relations : AreIn (length c.letters) c.relations
  pub elements : AreElements c t.elements
  pub listed : (w : List ℕ) → IsElement c w
      → (x : ℕ) × (x < length t.elements.words) × (element t.elements x ≡ w)
  pub products : (w x : ℕ) → w < length t.elements.words → x < length t.elements.words
      → Takes c t.elements (element t.elements w) x (entry t.tables.images (length t.elements.words) w x)
  pub numbered : (forms : NormalForms LETTERS c.relations)
      → (b : Numbering (List ℕ)) × AreTablesOf (IsElement c) (HasWord c) c.code (claim_of c forms) b t.tables
      × ((x : List ℕ) → IsElement c x → element t.elements (b.class x) ≡ x)
      × ((w : ℕ) → w < t.tables.labels → b.label w ≡ element t.elements w)
  pub counts : (t.tables.classes ≡ length t.elements.words) × (t.tables.labels ≡ length t.elements.words)
  pub part : IsPart (HasWord c) c.code
  pub labels : (forms : NormalForms LETTERS c.relations) (n : ℕ) → HasWord c n
      → IsElement c ((claim_of c forms).label n)
  pub tested : (forms : NormalForms LETTERS c.relations)
      → AreNeverBad (HasWord c) c.code (claim_of c forms)
      → AreTestedLabels (IsElement c) (HasWord c) c.code (claim_of c forms)

-- A heap without an option has the word of nothing, as the relations have it.
abbrev pub IsOneIfIdle : PresentedSaid → ℕ → Type 0
IsOneIfIdle c n = HasWord c n → ((H : List ℕ) → HeapOption c.code n H → ⊥)
    → Related LETTERS c.relations (heap_word c n) (zeros LETTERS)

-- The heaps' words are in the letters.
abbrev pub AreWordsIn : PresentedSaid → Type 0
AreWordsIn c = (n : ℕ) → (length (heap_word c n) ≡ LETTERS) × IsIn (length c.letters) (heap_word c n)

-- The heaps with a word are those of the list, and no option leaves them; without an option a heap's word is that
-- of nothing, which isn't in the portion.
pub record AreHeapsTested (c : PresentedSaid) : Type 0 where
  pub least : (n : ℕ) → HasWord c n → n ≤ c.heaps
  pub part : IsPart (HasWord c) c.code
  pub idle : (n : ℕ) → IsOneIfIdle c n
  pub ended : in_portion c (zeros LETTERS) ≡ false
