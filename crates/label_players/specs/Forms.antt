-- Normal forms of positions' words. For normal forms Baader and Nipkow; their bound is this project's own.
use Rattle.std.specs.Prelude.{ℕ, ◌*◌, ◌≤◌, List, length}
use Rattle.misere_theory.specs.Games.{IsPosition}
use Rattle.presentations.specs.declared.TheConstants.{LETTERS}
use Rattle.relations.specs.Bases.{letter_count}
use Rattle.normal_forms.specs.Forms.{IsNormalForm, word_of}
use Rattle.presented_text.specs.Said.{PresentedSaid}
use Rattle.presented_claims.specs.Claims.{heap_word}
use Rattle.presented_tables.specs.Tested.{HasWord}
use Rattle.player.specs.declared.labelling.TheConstants.{LONGEST_POSITION}

-- A normal form of the position's word.
abbrev pub IsFormOf : PresentedSaid → List ℕ → List ℕ → Type 0
IsFormOf c X w = IsNormalForm LETTERS c.relations (word_of LETTERS (heap_word c) X) w

-- as many letters as a heap's word has at most: 26 times 65,535
abbrev pub most_of_heap : ℕ
most_of_heap = 1703910

-- The presentation speaks of the position, and if this isn't too long, the word is its normal form.
pub record IsFormIfShort (c : PresentedSaid) (X : List ℕ) (w : List ℕ) : Type 0 where
  pub position : IsPosition (HasWord c) X
  pub form : length X ≤ LONGEST_POSITION → IsFormOf c X w
  pub few : length X ≤ LONGEST_POSITION → letter_count LETTERS w ≤ length X * most_of_heap
