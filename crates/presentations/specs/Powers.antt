-- Relations between powers of one letter, and the box of exponents below them.
use Rattle.std.specs.Prelude.{◌≡◌, ◌≢◌, ℕ, ◌*◌, ◌<◌, ◌⊎◌, ◌≤◌, List, [], ◌∷◌, length, slice_index, slice_index_or, Option, Some, None, nat_le, if◌then◌else◌, IsTrue}
use Rattle.presentations.specs.declared.TheConstants.{LETTERS}
use Rattle.presentations.specs.declared.read.Relation.{Relation}
use Rattle.presentations.specs.Words.{occurs, letters_of}

-- no other letter stands in the word
abbrev pub IsPowerOf : List ℕ → ℕ → Type 0
IsPowerOf word letter = (i : ℕ) → i < LETTERS → i ≢ letter → slice_index word i ≡ 0

-- The relation is one between two different powers of the letter, `most` the larger one.
pub record IsPowerRelation (r : Relation) (letter most back : ℕ) : Type 0 where
  pub left : IsPowerOf r.left letter
  pub right : IsPowerOf r.right letter
  pub less : back < most
  pub exponents :
      ((slice_index r.left letter ≡ most) × (slice_index r.right letter ≡ back))
      ⊎ ((slice_index r.left letter ≡ back) × (slice_index r.right letter ≡ most))

-- relation k is one between these powers of the letter
pub record HasPower (relations : List Relation) (letter most back k : ℕ) : Type 0 where
  pub within : k < length relations
  pub is : (d : Relation) → IsPowerRelation (slice_index_or relations k d) letter most back

abbrev pub HasSomePower : List Relation → ℕ → Type 0
HasSomePower relations letter = (most : ℕ) × (back : ℕ) × (k : ℕ)
    × HasPower relations letter most back k

-- the pair with the smaller first number, where there are two
abbrev pub lower_of : Option (ℕ × ℕ) → Option (ℕ × ℕ) → Option (ℕ × ℕ)
lower_of None found = found
lower_of (Some before) None = Some before
lower_of (Some before) (Some after) = if nat_le before.0 after.0 then Some before else Some after

-- the least larger exponent of such a relation among the first n
abbrev pub IsLeastPower : List Relation → ℕ → ℕ → Option (ℕ × ℕ) → Type 0
IsLeastPower relations letter n None = (most back k : ℕ) → k < n
    → HasPower relations letter most back k → ⊥
IsLeastPower relations letter n (Some p) =
    ((k : ℕ) × HasPower relations letter p.0 p.1 k) × (p.0 < 256)
    × ((most back k : ℕ) → k < n → HasPower relations letter most back k → p.0 ≤ most)

-- the letter has a least larger exponent
abbrev pub HasLeastPower : List Relation → ℕ → Type 0
HasLeastPower relations letter =
    (p : ℕ × ℕ) × IsLeastPower relations letter (length relations) (Some p)

-- each letter that occurs has a least larger exponent
abbrev pub AreBounded : List Relation → Type 0
AreBounded relations = (letter : ℕ) → letter < LETTERS → IsTrue (occurs relations letter)
    → HasLeastPower relations letter

-- some letter that occurs has no relation between two different powers of it alone
pub record IsUnbounded (relations : List Relation) : Type 0 where
  pub letter : ℕ
  pub within : letter < LETTERS
  pub stands : IsTrue (occurs relations letter)
  pub none : HasSomePower relations letter → ⊥

-- m is the larger exponent of a relation between two different powers of the letter
abbrev pub IsLarger : List Relation → ℕ → ℕ → Type 0
IsLarger relations letter m = (back : ℕ) × (k : ℕ) × HasPower relations letter m back k

-- m is the least such exponent
pub record IsLeastLarger (relations : List Relation) (letter m : ℕ) : Type 0 where
  pub is : IsLarger relations letter m
  pub least : (n : ℕ) → IsLarger relations letter n → m ≤ n

-- the product of the letters' least larger exponents is n
abbrev pub IsBoxSize : List Relation → List ℕ → ℕ → Type 0
IsBoxSize relations [] n = n ≡ 1
IsBoxSize relations (letter ∷ letters) n = (m : ℕ) × (rest : ℕ) × IsLeastLarger relations letter m
    × IsBoxSize relations letters rest × (n ≡ m * rest)

-- the least larger exponents of the letters that occur have a product above the limit
pub record IsAboveLimit (relations : List Relation) (limit : ℕ) : Type 0 where
  pub size : ℕ
  pub is : IsBoxSize relations (letters_of relations) size
  pub above : limit < size
