-- The letters that occur in relations between words, and the words as exponent vectors.
use Rattle.std.specs.Prelude.{ℕ, zero, suc, List, [], ◌∷◌, ◌++◌, slice_index, map, Bool, nat_lt, ◌||◌, if◌then◌else◌}
use Rattle.std.specs.List.{list_any}
use Rattle.presentations.specs.declared.TheConstants.{LETTERS}
use Rattle.presentations.specs.declared.read.Relation.{Relation}

-- the letter stands in some relation; the letters are 0 for a to 25 for z
abbrev pub occurs : List Relation → ℕ → Bool
occurs relations letter =
    list_any (λ r. nat_lt 0 (slice_index r.left letter) || nat_lt 0 (slice_index r.right letter))
    relations

-- the first n letters that occur, in the order of the alphabet
abbrev pub letters_below : List Relation → ℕ → List ℕ
letters_below relations zero = []
letters_below relations (suc n) = if occurs relations n then letters_below relations n
    ++ n ∷ [] else letters_below relations n

-- the generators
abbrev pub letters_of : List Relation → List ℕ
letters_of relations = letters_below relations LETTERS

-- the exponents of the generators in a word
abbrev pub vector_on : List ℕ → List ℕ → List ℕ
vector_on letters word = map (λ a. slice_index word a) letters

-- the relations as pairs of vectors
abbrev pub pairs_on : List ℕ → List Relation → List (List ℕ × List ℕ)
pairs_on letters relations =
    map (λ r. (vector_on letters r.left, vector_on letters r.right)) relations
