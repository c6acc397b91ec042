-- The least congruence of a presentation. The usual definitions.
use Rattle.std.specs.Prelude.{◌≡◌, ℕ, List, length, Contains}
use Rattle.presentations.specs.Vectors.{plus}

-- A congruence on vectors of n exponents: an equivalence that adding a vector to both sides keeps.
pub record IsCongruence (n : ℕ) (R : List ℕ → List ℕ → Type 0) : Type 0 where
  pub same : (u : List ℕ) → length u ≡ n → R u u
  pub turned : (u v : List ℕ) → R u v → R v u
  pub chained : (u v w : List ℕ) → R u v → R v w → R u w
  pub beside : (u v w : List ℕ) → length w ≡ n → R u v → R (plus u w) (plus v w)

-- The least congruence that holds every relation: what the relations give, and no pair more.
pub data Related (n : ℕ) (relations : List (List ℕ × List ℕ)) : List ℕ → List ℕ → Type 0 where
  Given : (r : List ℕ × List ℕ) → Contains relations r → Related n relations r.0 r.1
  Same : (u : List ℕ) → length u ≡ n → Related n relations u u
  Turned : (u v : List ℕ) → Related n relations u v → Related n relations v u
  Chained : (u v w : List ℕ) → Related n relations u v → Related n relations v w
      → Related n relations u w
  Beside : (u v w : List ℕ) → length w ≡ n → Related n relations u v
      → Related n relations (plus u w) (plus v w)
