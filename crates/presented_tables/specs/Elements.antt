-- The elements of a presentation in numbers, and to which of them words take others. This project's own.
use Rattle.std.specs.Prelude.{◌≡◌, ℕ, suc, ◌<◌, Bool, false, List, [], ◌∷◌, length, slice_index_or, nat_eq, cond}
use Rattle.std.specs.Cmp.Lexicographic.{pointwise}
use Rattle.presentations.specs.declared.TheConstants.{LETTERS}
use Rattle.presentations.specs.Vectors.{plus, zeros, only}
use Rattle.presentations.specs.Congruences.{Related}
use Rattle.kept_positions.specs.Numbers.{entry}
use Rattle.normal_forms.specs.Reductions.{AreConvergent}
use Rattle.presented_text.specs.Said.{PresentedSaid}
use Rattle.presented_claims.specs.Claims.{in_portion, IsElement}

-- Words; a row for each, which has the number of its product with each letter; and whether each is in the portion.
pub record ListedElements : Type 0 where
  pub words : List (List ℕ)
  pub steps : List ℕ
  pub bits : List Bool

-- The first place of a word in a list, or the list's length.
abbrev pub place : List (List ℕ) → List ℕ → ℕ
place [] w = 0
place (v ∷ vs) w = cond (pointwise nat_eq v w) 0 (suc (place vs w))

-- Number x of the words.
abbrev pub element : ListedElements → ℕ → List ℕ
element e x = slice_index_or e.words x []

-- The word takes element x to element y: its product with the one is the other.
pub record Takes (c : PresentedSaid) (e : ListedElements) (w : List ℕ) (x y : ℕ) : Type 0 where
  pub long : length w ≡ LETTERS
  pub inside : y < length e.words
  pub related : Related LETTERS c.relations (plus (element e x) w) (element e y)

-- Each word has one normal form. The words are elements, the first one that of nothing; each letter takes each to
-- the one that its row has; and the marks are the portion's.
pub record AreElements (c : PresentedSaid) (e : ListedElements) : Type 0 where
  pub converges : AreConvergent LETTERS c.relations
  pub some : 0 < length e.words
  pub first : element e 0 ≡ zeros LETTERS
  pub elements : (x : ℕ) → x < length e.words → IsElement c (element e x)
  pub steps : (x i : ℕ) → x < length e.words → i < length c.letters
      → Takes c e (only LETTERS i 1) x (entry e.steps (length c.letters) x i)
  pub bits : (x : ℕ) → x < length e.words → slice_index_or e.bits x false ≡ in_portion c (element e x)
