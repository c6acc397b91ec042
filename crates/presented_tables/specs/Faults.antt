-- When a refusal is true of a presentation. This project's own.
use Rattle.std.specs.Prelude.{◌≡◌, ℕ, ◌<◌, ◌⊎◌, true, List, [], ◌∷◌, None, length, slice_index_or}
use Rattle.misere_theory.specs.Games.{HeapOption, IsPosition}
use Rattle.presentations.specs.declared.TheConstants.{LETTERS}
use Rattle.presentations.specs.Vectors.{zeros}
use Rattle.presentations.specs.Congruences.{Related}
use Rattle.normal_forms.specs.Forms.{IsIn, AreIn}
use Rattle.presented_text.specs.Said.{PresentedSaid}
use Rattle.presented_claims.specs.Claims.{word_or_one, heap_word, in_portion, IsElement}
use Rattle.presented_tables.specs.Tested.{Says, SomeSays, HasWord}
use Rattle.presented_tables.specs.declared.fault.TablesFault.{TablesFault}
use Rattle.presented_tables.specs.declared.fault.TablesFault.TheVariants.{Letters, Leaves, Idle, Ended, Moves, Undecided, Limit, Memory}

-- Some option of the heap has a heap that is left out.
pub record LeavesOut (c : PresentedSaid) (n : ℕ) : Type 0 where
  pub has : HasWord c n
  pub left : List ℕ
  pub option : HeapOption c.code n left
  pub out : IsPosition (HasWord c) left → ⊥

-- The heap has no option, but its word isn't that of nothing.
pub record IsIdleOther (c : PresentedSaid) (n : ℕ) : Type 0 where
  pub has : HasWord c n
  pub idle : (H : List ℕ) → HeapOption c.code n H → ⊥
  pub other : Related LETTERS c.relations (heap_word c n) (zeros LETTERS) → ⊥

-- Beside the element, the heap is in the portion, and so is an option of it.
pub record DoesMoveWithin (c : PresentedSaid) (n : ℕ) (x : List ℕ) : Type 0 where
  pub has : HasWord c n
  pub element : IsElement c x
  pub says : Says c x (n ∷ []) true
  pub option : SomeSays c x n

-- What a fault says of the presentation.
abbrev pub IsTrueOf : PresentedSaid → TablesFault → Type 0
IsTrueOf c Letters =
    (AreIn (length c.letters) c.relations → ⊥)
    ⊎ ((i : ℕ) × (i < length c.words)
    × (IsIn (length c.letters) (word_or_one (slice_index_or c.words i None)) → ⊥))
IsTrueOf c (Leaves n) = LeavesOut c n
IsTrueOf c (Idle n) = IsIdleOther c n
IsTrueOf c Ended = in_portion c (zeros LETTERS) ≡ true
IsTrueOf c (Moves n x) = DoesMoveWithin c n x
IsTrueOf c Undecided = Unit {0}
IsTrueOf c Limit = Unit {0}
IsTrueOf c Memory = Unit {0}
