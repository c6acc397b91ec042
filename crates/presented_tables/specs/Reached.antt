-- At which elements the options of a heap stand. This project's own.
use Rattle.std.specs.Prelude.{◌≡◌, ◌⊎◌, ℕ, List, [], ◌∷◌, ◌++◌}
use Rattle.std.specs.List.{Contains}
use Rattle.misere_theory.specs.Games.{HeapOption}
use Rattle.presentations.specs.declared.TheConstants.{LETTERS}
use Rattle.normal_forms.specs.Forms.{word_of}
use Rattle.presented_text.specs.Said.{PresentedSaid}
use Rattle.presented_claims.specs.Claims.{heap_word}
use Rattle.presented_tables.specs.Elements.{ListedElements, Takes}

-- The heaps' word takes the element of nothing to element y.
abbrev pub StandsAt : PresentedSaid → ListedElements → List ℕ → ℕ → Type 0
StandsAt c e H y = Takes c e (word_of LETTERS (heap_word c) H) 0 y

-- Each option of the heap stands at an element of the list, and at each of these an option stands.
pub record AreReached (c : PresentedSaid) (e : ListedElements) (n : ℕ) (ys : List ℕ) : Type 0 where
  pub each : (H : List ℕ) → HeapOption c.code n H → (y : ℕ) × Contains ys y × StandsAt c e H y
  pub only : (y : ℕ) → Contains ys y → (H : List ℕ) × HeapOption c.code n H × StandsAt c e H y

-- The list is left as it is, if it has y; else y is put behind it.
abbrev pub IsWith : List ℕ → ℕ → List ℕ → Type 0
IsWith xs y zs = ((zs ≡ xs) × Contains xs y) ⊎ (zs ≡ xs ++ y ∷ [])
