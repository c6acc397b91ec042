-- What a text of a presentation says, and the ranges of its numbers: generators, relations and P-portion of a
-- misère quotient, as Plambeck and Siegel print them. This project's own.
use Rattle.std.specs.Prelude.{◌≡◌, ℕ, ◌≤◌, List, length, Option, Some, None}
use Rattle.std.specs.List.{AllByRecursion}
use Rattle.misere_theory.specs.Games.{IsCode}
use Rattle.presented_text.specs.Spelled.{IsSpellable}
use Rattle.presented_text.specs.declared.TheConstants.{MOST_HEAPS, MOST_ITEMS, LARGEST_CYCLE, MOST_GENERATORS}

-- The digits of the code; how many heaps have words of their own, and after how many these repeat, 0 if no
-- other heap counts; for each letter the heap whose word it is; for each heap its word, or none if it is left
-- out; the relations, left words first; for each letter from which exponent on the portion repeats along it,
-- and after how many; and the words of the portion.
pub record PresentedSaid : Type 0 where
  pub code : List ℕ
  pub heaps : ℕ
  pub period : ℕ
  pub letters : List ℕ
  pub words : List (Option (List ℕ))
  pub relations : List (List ℕ × List ℕ)
  pub cycles : List (ℕ × ℕ)
  pub portion : List (List ℕ)

-- none, or a word that can be spelled
abbrev pub IsHeapWord : Option (List ℕ) → Type 0
IsHeapWord None = Unit {0}
IsHeapWord (Some word) = IsSpellable word

-- both words can be spelled
abbrev pub IsSpellablePair : List ℕ × List ℕ → Type 0
IsSpellablePair r = IsSpellable r.0 × IsSpellable r.1

-- a start and a period that are small enough
abbrev pub IsCycle : ℕ × ℕ → Type 0
IsCycle c = (c.0 ≤ LARGEST_CYCLE) × (1 ≤ c.1) × (c.1 ≤ LARGEST_CYCLE)

-- Each line has its count of words, and each number is in its range.
pub record IsInRanges (c : PresentedSaid) : Type 0 where
  pub code : IsCode c.code
  pub heaps : (1 ≤ c.heaps) × (c.heaps ≤ MOST_HEAPS)
  pub period : c.period ≤ c.heaps
  pub letters : (length c.letters ≤ MOST_GENERATORS)
      × AllByRecursion (λ h. (1 ≤ h) × (h ≤ MOST_HEAPS)) c.letters
  pub words : (length c.words ≡ c.heaps) × AllByRecursion IsHeapWord c.words
  pub relations : (length c.relations ≤ MOST_ITEMS) × AllByRecursion IsSpellablePair c.relations
  pub cycles : (length c.cycles ≡ length c.letters) × AllByRecursion IsCycle c.cycles
  pub portion : (length c.portion ≤ MOST_ITEMS) × AllByRecursion IsSpellable c.portion
