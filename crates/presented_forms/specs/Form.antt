-- The form that a presentation is asked to have: letters named by their heaps, standard words, a reduced basis in order,
-- and a portion in order. After the reduced Gröbner bases of Cox, Little and O'Shea, Ideals, Varieties, and Algorithms,
-- chapter 2; that all of it is asked for is this project's own.
use Rattle.std.specs.Prelude.{◌≡◌, ◌≢◌, ℕ, ◌+◌, ◌-◌, ◌<◌, ◌≤◌, ◌⊎◌, true, List, length, slice_index, slice_index_or, Option, Some, None, All}
use Rattle.presentations.specs.declared.TheConstants.{LETTERS}
use Rattle.presentations.specs.Vectors.{only}
use Rattle.relations.specs.Bases.{Divides, Precedes}
use Rattle.normal_forms.specs.Forms.{IsStandard}
use Rattle.presented_text.specs.Said.{PresentedSaid}
use Rattle.presented_claims.specs.Claims.{listed_word, cycled, in_portion}

-- ---- words

-- each word comes before the next one
abbrev pub AreRising : List (List ℕ) → Type 0
AreRising words = (k : ℕ) (d : List ℕ) → 0 < k → k < length words
    → Precedes LETTERS (slice_index_or words (k - 1) d) (slice_index_or words k d)

-- none, or a standard word
abbrev pub IsStandardIfSome : List (List ℕ × List ℕ) → Option (List ℕ) → Type 0
IsStandardIfSome relations None = Unit {0}
IsStandardIfSome relations (Some w) = IsStandard LETTERS relations w

-- ---- relations

-- Letter i is the last one of the word.
pub record IsLastLetter (w : List ℕ) (i : ℕ) : Type 0 where
  pub letter : i < LETTERS
  pub some : 0 < slice_index w i
  pub none : (k : ℕ) → i < k → k < LETTERS → slice_index w k ≡ 0

-- The last letter of the first word comes before that of the second one; or it is the same, and the word comes first.
abbrev pub ComesEarlier : List ℕ → List ℕ → Type 0
ComesEarlier v w = (i k : ℕ) → IsLastLetter v i → IsLastLetter w k
    → (i < k) ⊎ ((i ≡ k) × Precedes LETTERS v w)

-- by the last letters of their left words
abbrev pub AreInOrder : List (List ℕ × List ℕ) → Type 0
AreInOrder relations = (k : ℕ) (d : List ℕ × List ℕ) → 0 < k → k < length relations
    → ComesEarlier (slice_index_or relations (k - 1) d).0 (slice_index_or relations k d).0

-- No left word is in a right word, or in another left word.
pub record AreReduced (relations : List (List ℕ × List ℕ)) : Type 0 where
  pub rights : All (λ r. IsStandard LETTERS relations r.1) relations
  pub lefts : (i k : ℕ) (d : List ℕ × List ℕ) → i < length relations → k < length relations → i ≢ k
      → Divides LETTERS (slice_index_or relations i d).0 (slice_index_or relations k d).0 → ⊥

-- ---- the portion

-- Of each letter that has a cycle the word has fewer than where the first period ends.
abbrev pub IsBelow : List (ℕ × ℕ) → List ℕ → Type 0
IsBelow cycles w = (i : ℕ) (d : ℕ × ℕ) → i < length cycles
    → slice_index w i < (slice_index_or cycles i d).0 + (slice_index_or cycles i d).1

-- Some word that the cycles take to u may hold the word v: of each letter u has as many, or it is in the cycle.
abbrev pub MayHold : List (ℕ × ℕ) → List ℕ → List ℕ → Type 0
MayHold cycles v u = (i : ℕ) (d : ℕ × ℕ) → i < LETTERS
    → (slice_index v i ≤ slice_index u i)
    ⊎ ((i < length cycles) × ((slice_index_or cycles i d).0 ≤ slice_index u i))

-- Only standard words are taken to this one by the cycles.
abbrev pub StandsForStandard : List (List ℕ × List ℕ) → List (ℕ × ℕ) → List ℕ → Type 0
StandsForStandard relations cycles u = (w : List ℕ) → length w ≡ LETTERS → cycled cycles w ≡ u
    → IsStandard LETTERS relations w

-- ---- letters

-- Letter i is the word of the heap n of the list.
abbrev pub IsNamedBy : PresentedSaid → ℕ → ℕ → Type 0
IsNamedBy c i n = listed_word c n ≡ Some (only LETTERS i 1)

-- Each letter is the word of its heap, and these rise.
pub record AreNamed (c : PresentedSaid) : Type 0 where
  pub named : (i : ℕ) → i < length c.letters → IsNamedBy c i (slice_index c.letters i)
  pub rising : (i : ℕ) → 0 < i → i < length c.letters
      → slice_index c.letters (i - 1) < slice_index c.letters i

-- All of this.
pub record IsInForm (c : PresentedSaid) : Type 0 where
  pub letters : AreNamed c
  pub words : All (IsStandardIfSome c.relations) c.words
  pub reduced : AreReduced c.relations
  pub in_order : AreInOrder c.relations
  pub rising : AreRising c.portion
  pub below : All (IsBelow c.cycles) c.portion
  pub standard : (w : List ℕ) → length w ≡ LETTERS → in_portion c w ≡ true
      → IsStandard LETTERS c.relations w
