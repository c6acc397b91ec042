-- Classes of elements, by folds of their words: lists of them, and what is the same for all elements of one. This
-- project's own.
use Rattle.std.specs.Prelude.{◌≡◌, ℕ, ◌<◌, ◌≤◌, Bool, List, [], ◌∷◌, length, slice_index_or}
use Rattle.misere_theory.specs.Games.{HeapOption}
use Rattle.presentations.specs.declared.TheConstants.{LETTERS}
use Rattle.presentations.specs.Vectors.{plus, zeros}
use Rattle.normal_forms.specs.Forms.{IsNormalForm}
use Rattle.presented_text.specs.Said.{PresentedSaid}
use Rattle.presented_claims.specs.Claims.{IsElement, in_portion, cycled}
use Rattle.presented_tables.specs.Tested.{Says}
use Rattle.presented_tables.specs.Beside.{IsBeside}
use Rattle.presented_tables.specs.declared.beside.Beside.{Beside}
use Rattle.presented_claims.specs.Folds.{HavePeriods, AreAbove}

-- Thresholds and periods for the letters of a presentation; no left word has more of a letter than its threshold.
pub record AreFolds (c : PresentedSaid) (folds : List (ℕ × ℕ)) : Type 0 where
  pub few : length folds ≤ LETTERS
  pub periods : HavePeriods folds
  pub above : AreAbove folds c.relations

-- Number k of the words.
abbrev pub word_at : List (List ℕ) → ℕ → List ℕ
word_at ws k = slice_index_or ws k []

-- The word is in the list.
abbrev pub IsThere : List (List ℕ) → List ℕ → Type 0
IsThere ws w = (k : ℕ) × (k < length ws) × (word_at ws k ≡ w)

-- Elements, the first one that of nothing; and the fold of each element is one of them.
pub record AreClasses (c : PresentedSaid) (folds : List (ℕ × ℕ)) (ws : List (List ℕ)) : Type 0 where
  pub some : 0 < length ws
  pub first : word_at ws 0 ≡ zeros LETTERS
  pub elements : (k : ℕ) → k < length ws → IsElement c (word_at ws k)
  pub listed : (x : List ℕ) → IsElement c x → IsThere ws (cycled folds x)

-- The element is of the class q.
pub record IsOfClass (c : PresentedSaid) (folds : List (ℕ × ℕ)) (q x : List ℕ) : Type 0 where
  pub element : IsElement c x
  pub fold : cycled folds x ≡ q

-- Times the word w, all elements of the class q have the fold t.
abbrev pub HaveFold : PresentedSaid → List (ℕ × ℕ) → List (ℕ × ℕ) → List ℕ → List ℕ → List ℕ → Type 0
HaveFold c folds tops q w t = (x u : List ℕ) → IsOfClass c folds q x
    → IsNormalForm LETTERS c.relations (plus x w) u → cycled tops u ≡ t

-- Times the word w, all elements of the class q are in the portion, or none is.
abbrev pub AreSaid : PresentedSaid → List (ℕ × ℕ) → List ℕ → List ℕ → Bool → Type 0
AreSaid c folds q w b = (x u : List ℕ) → IsOfClass c folds q x
    → IsNormalForm LETTERS c.relations (plus x w) u → in_portion c u ≡ b

-- Beside all elements of the class, the heap does the same.
abbrev pub AreBeside : PresentedSaid → List (ℕ × ℕ) → List ℕ → ℕ → Beside → Type 0
AreBeside c folds q n b = (x : List ℕ) → IsOfClass c folds q x → IsBeside c x n b
