-- When two presentations are alike, and when what they present is isomorphic as bipartite monoids: Plambeck and Siegel.
use Rattle.std.specs.Prelude.{◌≡◌, ℕ, Bool, List, length}
use Rattle.presentations.specs.declared.TheConstants.{LETTERS}
use Rattle.presentations.specs.Vectors.{plus, zeros}
use Rattle.presentations.specs.Congruences.{Related}
use Rattle.normal_forms.specs.Forms.{IsIn, IsNormalForm}
use Rattle.presented_text.specs.Said.{PresentedSaid}
use Rattle.presented_claims.specs.Claims.{in_portion}

-- They have as many letters, and the same relations, cycles and portion, whatever heaps the letters are.
pub record AreAlike (c d : PresentedSaid) : Type 0 where
  pub letters : length c.letters ≡ length d.letters
  pub relations : c.relations ≡ d.relations
  pub cycles : c.cycles ≡ d.cycles
  pub portion : c.portion ≡ d.portion

-- a word in the letters of the presentation: it stands for an element of the monoid
pub record IsWordOf (c : PresentedSaid) (w : List ℕ) : Type 0 where
  pub long : length w ≡ LETTERS
  pub within : IsIn (length c.letters) w

-- whether the element for which the word stands is in the portion
abbrev pub IsElementSaid : PresentedSaid → List ℕ → Bool → Type 0
IsElementSaid c w b = (u : List ℕ) → IsNormalForm LETTERS c.relations w u → in_portion c u ≡ b

-- f sends the elements of the one monoid to those of the other (g sends them back), equal ones to equal ones, the
-- identity to the identity, products to products, and the portion to the portion. An element is a class of words that the
-- relations relate; each word has one normal form, by what a check accepts, and that says whether the element is in the
-- portion.
pub record IsIsomorphismOf (c d : PresentedSaid) (f g : List ℕ → List ℕ) : Type 0 where
  pub into : (w : List ℕ) → IsWordOf c w → IsWordOf d (f w)
  pub back : (w : List ℕ) → IsWordOf d w → IsWordOf c (g w)
  pub equal : (v w : List ℕ) → IsWordOf c v → IsWordOf c w → Related LETTERS c.relations v w
      → Related LETTERS d.relations (f v) (f w)
  pub equal_back : (v w : List ℕ) → IsWordOf d v → IsWordOf d w → Related LETTERS d.relations v w
      → Related LETTERS c.relations (g v) (g w)
  pub there_and_back : (w : List ℕ) → IsWordOf c w → Related LETTERS c.relations (g (f w)) w
  pub back_and_there : (w : List ℕ) → IsWordOf d w → Related LETTERS d.relations (f (g w)) w
  pub identity : Related LETTERS d.relations (f (zeros LETTERS)) (zeros LETTERS)
  pub products : (v w : List ℕ) → IsWordOf c v → IsWordOf c w
      → Related LETTERS d.relations (f (plus v w)) (plus (f v) (f w))
  pub portion : (w : List ℕ) (b : Bool) → IsWordOf c w → IsElementSaid c w b → IsElementSaid d (f w) b

-- There are such maps.
abbrev pub AreIsomorphic : PresentedSaid → PresentedSaid → Type 0
AreIsomorphic c d =
    (f : List ℕ → List ℕ) × (g : List ℕ → List ℕ) × IsIsomorphismOf c d f g
