-- The table of a presentation's least congruence.
use Rattle.std.specs.Prelude.{◌≡◌, ℕ, ◌+◌, ◌-◌, ◌<◌, ◌≤◌, ◌↔◌, List, [], ◌∷◌, length, map, All, false, slice_index}
use Rattle.misere_theory.specs.Quotients.{Claim, Monoid}
use Rattle.misere_theory.specs.Numbering.{IsNumbered}
use Rattle.monoid_table.specs.Grids.{Grid, times_in}
use Rattle.monoid_table.specs.Laws.{power_of}
use Rattle.presentations.specs.declared.named.NamedElement.{NamedElement}
use Rattle.presentations.specs.declared.read.Relation.{Relation}
use Rattle.presentations.specs.Congruences.{Related}
use Rattle.presentations.specs.Words.{letters_of, pairs_on}

-- the product of the generators' powers
abbrev pub product_at : (ℕ → ℕ → ℕ) → List ℕ → List ℕ → ℕ
product_at times [] v = 0
product_at times (g ∷ gs) [] = 0
product_at times (g ∷ gs) (x ∷ v) = times (power_of 0 times g x) (product_at times gs v)

-- the table with the generators' elements in place of those of the heaps 1, 2, ..
abbrev pub as_claim : Grid → List ℕ → Claim
as_claim table elements =
    record {
      order = table.order;
      times = times_in table;
      phi = λ h. slice_index elements (h - 1);
      portion = λ _. false;
    }

-- The elements are numbered by least keys, as those of a certificate: a key is an element and the
-- number of a generator, the first of which is 1.
abbrev pub IsNumberedByLeastKeys : Grid → List ℕ → Type 0
IsNumberedByLeastKeys table elements =
    (key : ℕ → ℕ × ℕ) × IsNumbered (as_claim table elements) (length elements) key

-- The table is a commutative monoid; each letter that occurs has an element of it; products of
-- powers are equal exactly where the least congruence relates their exponents; each element is such
-- a product; and the elements are numbered by least keys.
pub record IsTableOf (relations : List Relation) (table : Grid)
    (generators : List NamedElement) : Type 0 where
  pub monoid : Monoid table.order (times_in table)
  pub letters : map (λ g. g.letter) generators ≡ map (λ a. 97 + a) (letters_of relations)
  pub elements : All (λ g. g.element < table.order) generators
  pub exact : (u v : List ℕ) → length u ≡ length (letters_of relations)
      → length v ≡ length (letters_of relations)
      → (product_at (times_in table) (map (λ g. g.element) generators) u
      ≡ product_at (times_in table) (map (λ g. g.element) generators) v)
      ↔ Related (length (letters_of relations)) (pairs_on (letters_of relations) relations) u v
  pub reached : (x : ℕ) → x < table.order
      → (v : List ℕ) × (length v ≡ length (letters_of relations))
      × (product_at (times_in table) (map (λ g. g.element) generators) v ≡ x)
  pub numbered : IsNumberedByLeastKeys table (map (λ g. g.element) generators)

-- The least congruence's monoid has more than n elements: there are n + 1 vectors of which it
-- relates no two.
pub record HasMoreElements (relations : List Relation) (n : ℕ) : Type 0 where
  pub vector : ℕ → List ℕ
  pub long : (i : ℕ) → i ≤ n → length (vector i) ≡ length (letters_of relations)
  pub apart : (i j : ℕ) → i < j → j ≤ n
      → Related (length (letters_of relations)) (pairs_on (letters_of relations) relations)
      (vector i) (vector j) → ⊥
