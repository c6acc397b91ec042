-- Relations that present the monoid of a table, and what shows that they do.
use Rattle.std.specs.Prelude.{◌≡◌, ℕ, zero, suc, ◌+◌, ◌-◌, ◌<◌, ◌≤◌, ◌↔◌, List, [], ◌∷◌, ◌++◌, length, slice_index, slice_index_or, All, Contains}
use Rattle.monoid_table.specs.Grids.{Grid, times_in}
use Rattle.presentations.specs.declared.read.Relation.{Relation}
use Rattle.presentations.specs.Vectors.{zeros, bump}
use Rattle.presentations.specs.Congruences.{Related}
use Rattle.presentations.specs.Words.{letters_of, vector_on, pairs_on}
use Rattle.presentations.specs.Tables.{product_at}

-- the letters a, b, .., n of them
abbrev pub first_letters : ℕ → List ℕ
first_letters zero = []
first_letters (suc n) = first_letters n ++ n ∷ []

-- the exponents of the first n letters in a word
abbrev pub vector_of : ℕ → List ℕ → List ℕ
vector_of n word = vector_on (first_letters n) word

-- the relations as pairs of vectors of the first n letters
abbrev pub pairs_of : ℕ → List Relation → List (List ℕ × List ℕ)
pairs_of n relations = pairs_on (first_letters n) relations

-- the least congruence relates two words in the first n letters
abbrev pub AreRelatedWords : ℕ → List Relation → List ℕ → List ℕ → Type 0
AreRelatedWords n relations v w = Related n (pairs_of n relations) (vector_of n v) (vector_of n w)

-- both words of the relation are the same element
abbrev pub HoldsIn : Grid → List ℕ → Relation → Type 0
HoldsIn table elements r =
    product_at (times_in table) elements (vector_of (length elements) r.left)
    ≡ product_at (times_in table) elements (vector_of (length elements) r.right)

-- A word for each element, and that one generator more leads to a word that the relations relate to
-- that of the product.
pub record AreWords (table : Grid) (elements : List ℕ) (pairs : List (List ℕ × List ℕ))
    (word : ℕ → List ℕ) : Type 0 where
  pub long : (x : ℕ) → x < table.order → length (word x) ≡ length elements
  pub none : word 0 ≡ zeros (length elements)
  pub value : (x : ℕ) → x < table.order → product_at (times_in table) elements (word x) ≡ x
  pub step : (x i : ℕ) → x < table.order → i < length elements
      → Related (length elements) pairs (bump (word x) i)
      (word (times_in table x (slice_index elements i)))

-- pairs of vectors that are the same element each
abbrev pub PairsHold : Grid → List ℕ → List (List ℕ × List ℕ) → Type 0
PairsHold table elements pairs =
    All (λ r. (length r.0 ≡ length elements) × (length r.1 ≡ length elements)
    × (product_at (times_in table) elements r.0 ≡ product_at (times_in table) elements r.1)) pairs

-- The pairs present the table's monoid by these elements: products of powers are equal exactly where
-- the least congruence relates their exponents, and each element is such a product.
pub record Present (table : Grid) (elements : List ℕ) (pairs : List (List ℕ × List ℕ)) : Type 0
  where
    pub exact : (u v : List ℕ) → length u ≡ length elements → length v ≡ length elements
        → (product_at (times_in table) elements u ≡ product_at (times_in table) elements v)
        ↔ Related (length elements) pairs u v
    pub reached : (x : ℕ) → x < table.order
        → (v : List ℕ) × (length v ≡ length elements)
        × (product_at (times_in table) elements v ≡ x)

-- The relations present the table's monoid, and the elements are those of the letters a, b, .., which
-- are the letters that occur.
pub record ArePresentation (table : Grid) (elements : List ℕ) (relations : List Relation) : Type 0
  where
    pub letters : letters_of relations ≡ first_letters (length elements)
    pub present : Present table elements (pairs_on (letters_of relations) relations)

-- the word with the rule's right word in place of its left one
abbrev pub IsRewritten : ℕ → Relation → List ℕ → List ℕ → Type 0
IsRewritten n rule word result = (i : ℕ) → i < n
    → (slice_index rule.left i ≤ slice_index word i)
    × (slice_index result i ≡ slice_index word i - slice_index rule.left i
    + slice_index rule.right i)

-- the word of x with letter i once more is related to the word of their product
abbrev pub StepHolds : Grid → List ℕ → List Relation → List (List ℕ) → ℕ → ℕ → Type 0
StepHolds table elements rules words x i =
    Related (length elements) (pairs_of (length elements) rules)
    (bump (vector_of (length elements) (slice_index_or words x [])) i)
    (vector_of (length elements)
    (slice_index_or words (times_in table x (slice_index elements i)) []))

-- a word for each element, whose product of powers it is
pub record AreNamed (table : Grid) (elements : List ℕ) (words : List (List ℕ)) : Type 0 where
  pub all : length words ≡ table.order
  pub value : (x : ℕ) (d : List ℕ) → x < table.order
      → product_at (times_in table) elements (vector_of (length elements) (slice_index_or words x d))
      ≡ x

-- Each relation leads from a word that is not in the list to one that is. Half of what makes a basis a
-- reduced one: Cox, Little and O'Shea, Ideals, Varieties, and Algorithms, chapter 2.
abbrev pub LeadTo : List (List ℕ) → List Relation → Type 0
LeadTo words relations = All (λ r. (Contains words r.left → ⊥) × Contains words r.right) relations

-- each element of a table of this order, once
pub record IsListing (order : ℕ) (listing : List ℕ) : Type 0 where
  pub long : length listing ≡ order
  pub below : All (λ e. e < order) listing
  pub all : (x : ℕ) → x < order → Contains listing x
