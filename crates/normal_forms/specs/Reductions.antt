-- Words of a commutative monoid, reduced by relations: Baader and Nipkow, Term Rewriting and All That,
-- chapter 2, and for critical pairs of words in commuting letters Cox, Little and O'Shea, Ideals,
-- Varieties, and Algorithms, chapter 2. A word is a vector of n exponents, a relation a left word and a
-- right one.
use Rattle.std.specs.Prelude.{◌≡◌, ℕ, ◌-◌, ◌≤◌, List, [], ◌∷◌, length, All, Contains}
use Rattle.presentations.specs.Vectors.{plus}
use Rattle.relations.specs.Bases.{Precedes, letter_count}
use Rattle.normal_forms.specs.declared.TheConstants.{MOST_LEFT_LETTERS}

-- what a word has more than another, of each letter
abbrev pub minus : List ℕ → List ℕ → List ℕ
minus [] v = []
minus (x ∷ w) [] = x ∷ w
minus (x ∷ w) (y ∷ v) = (x - y) ∷ minus w v

-- The word u is w with the right word of the relation in place of its left one.
pub record IsReduction (n : ℕ) (r : List ℕ × List ℕ) (w u : List ℕ) : Type 0 where
  pub rest : List ℕ
  pub long : length rest ≡ n
  pub before : w ≡ plus r.0 rest
  pub after : u ≡ plus r.1 rest

-- The relations reduce the first word to the second one, in any number of steps.
pub data ReducesTo (n : ℕ) (relations : List (List ℕ × List ℕ)) : List ℕ → List ℕ → Type 0 where
  Stays : (w : List ℕ) → ReducesTo n relations w w
  Goes : (r : List ℕ × List ℕ) (w u v : List ℕ) → Contains relations r → IsReduction n r w u
      → ReducesTo n relations u v → ReducesTo n relations w v

-- Both words reduce to one.
pub record Join (n : ℕ) (relations : List (List ℕ × List ℕ)) (u v : List ℕ) : Type 0 where
  pub word : List ℕ
  pub left : ReducesTo n relations u word
  pub right : ReducesTo n relations v word

-- What the relation r makes of the least word that its left word and that of s are in.
abbrev pub side_of : List ℕ × List ℕ → List ℕ × List ℕ → List ℕ
side_of r s = plus r.1 (minus s.0 r.0)

-- the two sides of each critical pair join
abbrev pub DoPairsJoin : ℕ → List (List ℕ × List ℕ) → Type 0
DoPairsJoin n relations =
    All (λ r. All (λ s. Join n relations (side_of r s) (side_of s r)) relations) relations

-- Words of n exponents, and each right word comes before its left one.
pub record AreOriented (n : ℕ) (relations : List (List ℕ × List ℕ)) : Type 0 where
  pub long : All (λ r. (length r.0 ≡ n) × (length r.1 ≡ n)) relations
  pub falls : All (λ r. Precedes n r.1 r.0) relations

-- no left word has more letters than a critical pair has room for
abbrev pub AreShort : ℕ → List (List ℕ × List ℕ) → Type 0
AreShort n relations = All (λ r. letter_count n r.0 ≤ MOST_LEFT_LETTERS) relations

-- Relations that reduce every word to one irreducible word, however they are used: the left words with
-- their right ones are a Gröbner basis.
pub record AreConvergent (n : ℕ) (relations : List (List ℕ × List ℕ)) : Type 0 where
  pub oriented : AreOriented n relations
  pub joined : DoPairsJoin n relations
