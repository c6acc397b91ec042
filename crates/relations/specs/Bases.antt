-- Reduced Gröbner bases of the relations of a commutative monoid: Cox, Little and O'Shea, Ideals,
-- Varieties, and Algorithms, chapter 2.
use Rattle.std.specs.Prelude.{◌≡◌, ◌≢◌, ℕ, zero, suc, ◌+◌, ◌<◌, ◌≤◌, ◌⊎◌, List, ◌++◌, length, take, drop, slice_index, slice_index_or, All}
use Rattle.std.specs.List.{Any}
use Rattle.presentations.specs.declared.read.Relation.{Relation}
use Rattle.presentations.specs.Vectors.{bump}
use Rattle.relations.specs.Presented.{AreRelatedWords, vector_of}
use Rattle.relations.specs.declared.TheConstants.{LARGEST_IRREDUNDANT}
use Rattle.relations.specs.declared.finding.Form.{Form}
use Rattle.relations.specs.declared.finding.Form.TheVariants.{Short, Basis}

-- the word v is in the word w: of none of the first n letters it has more
abbrev pub Divides : ℕ → List ℕ → List ℕ → Type 0
Divides n v w = (i : ℕ) → i < n → slice_index v i ≤ slice_index w i

-- how many of the first n letters a word has
abbrev pub letter_count : ℕ → List ℕ → ℕ
letter_count zero word = 0
letter_count (suc n) word = letter_count n word + slice_index word n

-- The graded reverse lexicographic ordering, the last letter the largest: the word v comes before w if it has
-- fewer letters, or as
-- many, and more of the first letter of which they differ.
abbrev pub Precedes : ℕ → List ℕ → List ℕ → Type 0
Precedes n v w =
    (letter_count n v < letter_count n w)
    ⊎ ((letter_count n v ≡ letter_count n w)
    × ((i : ℕ) × (i < n) × (slice_index w i < slice_index v i)
    × ((k : ℕ) → k < i → slice_index v k ≡ slice_index w k)))

-- some relation's left word is in the word
abbrev pub IsReducible : ℕ → List Relation → List ℕ → Type 0
IsReducible n relations word = Any (λ r. Divides n r.left word) relations

-- Each relation leads down to an irreducible word, no left word is in another one, and the irreducible
-- words are those listed.
pub record IsReducedBasis (n : ℕ) (words : List (List ℕ)) (relations : List Relation) : Type 0 where
  pub falls : All (λ r. Precedes n r.right r.left) relations
  pub irreducible : All (λ r. IsReducible n relations r.right → ⊥) relations
  pub minimal : (i k : ℕ) (d : Relation) → i < length relations → k < length relations → i ≢ k
      → Divides n (slice_index_or relations i d).left (slice_index_or relations k d).left → ⊥
  pub listed : All (λ word. IsReducible n relations word → ⊥) words
  pub all : (v : List ℕ) → length v ≡ n → (IsReducible n relations v → ⊥)
      → Any (λ word. vector_of n word ≡ v) words

-- relation k doesn't follow from the others
abbrev pub FollowsNot : ℕ → List Relation → ℕ → Type 0
FollowsNot n relations k = (d : Relation)
    → AreRelatedWords n (take k relations ++ drop (k + 1) relations)
    (slice_index_or relations k d).left (slice_index_or relations k d).right
    → ⊥

-- No relation follows from the others. Such presentations are called irredundant.
abbrev pub IsIrredundant : ℕ → List Relation → Type 0
IsIrredundant n relations = (k : ℕ) → k < length relations → FollowsNot n relations k

-- The relations are those of the form that is asked for: the reduced Gröbner basis, or a short list, of
-- which none follows from the others where there are at most LARGEST_IRREDUNDANT words.
abbrev pub AreOfForm : Form → ℕ → List (List ℕ) → List Relation → Type 0
AreOfForm Basis n words relations = IsReducedBasis n words relations
AreOfForm Short n words relations = length words ≤ LARGEST_IRREDUNDANT → IsIrredundant n relations

-- The word with letter i once more is listed or reducible.
abbrev pub LeadsOn : ℕ → List (List ℕ) → List Relation → List ℕ → ℕ → Type 0
LeadsOn n words relations word i =
    Any (λ other. vector_of n other ≡ bump (vector_of n word) i) words
    ⊎ IsReducible n relations (bump (vector_of n word) i)
