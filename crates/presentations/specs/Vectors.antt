-- Exponent vectors: an exponent for each generator.
use Rattle.std.specs.Prelude.{ℕ, zero, suc, ◌+◌, List, [], ◌∷◌}

-- the sum of two vectors
abbrev pub plus : List ℕ → List ℕ → List ℕ
plus [] w = w
plus (x ∷ u) [] = x ∷ u
plus (x ∷ u) (y ∷ w) = (x + y) ∷ plus u w

-- the vector of the empty word
abbrev pub zeros : ℕ → List ℕ
zeros zero = []
zeros (suc n) = 0 ∷ zeros n

-- the vector of n exponents of which number i is k and the others are 0
abbrev pub only : ℕ → ℕ → ℕ → List ℕ
only zero i k = []
only (suc n) zero k = k ∷ zeros n
only (suc n) (suc i) k = 0 ∷ only n i k

-- the vector with generator i once more
abbrev pub bump : List ℕ → ℕ → List ℕ
bump [] i = []
bump (x ∷ v) zero = (x + 1) ∷ v
bump (x ∷ v) (suc i) = x ∷ bump v i
