-- The text of a presentation as a relation between bytes and relations, by cases on factors, words
-- and relations. This project's own.
use Rattle.std.specs.Prelude.{ℕ, ◌+◌, ◌*◌, ◌<◌, ◌≤◌, List, [], ◌∷◌, ◌++◌, length, All}
use Rattle.presentations.specs.declared.TheConstants.{LETTERS, LARGEST_EXPONENT, MOST_RELATIONS}
use Rattle.presentations.specs.declared.read.Relation.{Relation}
use Rattle.presentations.specs.Vectors.{plus, zeros, only}

-- A number from 2 to LARGEST_EXPONENT without leading zeros.
pub data IsPower : List ℕ → ℕ → Type 0 where
  One : (d : ℕ) → 2 ≤ d → d < 10 → IsPower ((48 + d) ∷ []) d
  Two : (d e : ℕ) → 1 ≤ d → d < 10 → e < 10 → 10 * d + e ≤ LARGEST_EXPONENT
      → IsPower ((48 + d) ∷ (48 + e) ∷ []) (10 * d + e)

-- A factor: a letter, 0 for a to 25 for z, alone for the exponent 1, or with ^ and its exponent.
pub data IsFactor : List ℕ → ℕ × ℕ → Type 0 where
  Alone : (letter : ℕ) → letter < LETTERS → IsFactor ((97 + letter) ∷ []) (letter, 1)
  Raised : (letter n : ℕ) (digits : List ℕ) → letter < LETTERS → IsPower digits n
      → IsFactor ((97 + letter) ∷ 94 ∷ digits) (letter, n)

-- Factors one after another, and the sum of their exponents for each letter.
pub data AreFactors : List ℕ → List ℕ → Type 0 where
  None : AreFactors [] (zeros LETTERS)
  More : (first rest : List ℕ) (factor : ℕ × ℕ) (v : List ℕ) → IsFactor first factor
      → AreFactors rest v
      → AreFactors (first ++ rest) (plus (only LETTERS factor.0 factor.1) v)

-- factors of which no letter's exponents come to more than LARGEST_EXPONENT
pub record AreFewFactors (bytes v : List ℕ) : Type 0 where
  pub are : AreFactors bytes v
  pub few : All (λ x. x ≤ LARGEST_EXPONENT) v

-- A word: 1, or one factor or more, and no letter's exponents come to more than LARGEST_EXPONENT.
pub data IsWord : List ℕ → List ℕ → Type 0 where
  Empty : IsWord (49 ∷ []) (zeros LETTERS)
  Product : (bytes v : List ℕ) → 0 < length bytes → AreFewFactors bytes v → IsWord bytes v

-- A relation: two words with = between them.
pub data IsRelation : List ℕ → Relation → Type 0 where
  Equal : (left right : List ℕ) (relation : Relation) → IsWord left relation.left
      → IsWord right relation.right
      → IsRelation (left ++ 61 ∷ right) relation

-- One relation or more, joined by one space.
pub data AreRelations : List ℕ → List Relation → Type 0 where
  Last : (bytes : List ℕ) (relation : Relation) → IsRelation bytes relation
      → AreRelations bytes (relation ∷ [])
  Next : (first rest : List ℕ) (relation : Relation) (relations : List Relation)
      → IsRelation first relation → AreRelations rest relations
      → AreRelations (first ++ 32 ∷ rest) (relation ∷ relations)

-- The bytes spell this presentation: 1 to MOST_RELATIONS relations.
pub record SpellsPresentation (bytes : List ℕ) (relations : List Relation) : Type 0 where
  pub are : AreRelations bytes relations
  pub most : length relations ≤ MOST_RELATIONS
