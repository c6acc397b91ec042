-- Words in the generators of U, and when the relations make two of them the same. Presentations of commutative
-- monoids: the usual definition; this one is the project's own.
use Rattle.std.specs.Prelude.{ℕ, zero, suc, ◌+◌, ◌*◌, ◌≤◌, false, true, List, [], ◌∷◌, ◌++◌}
use Rattle.dominance.specs.Triples.{Triple, nothing, times}

-- The generators a, b, and h_i for each i.
pub data Letter : Type 0 where
  A : Letter
  B : Letter
  H : ℕ → Letter

-- Their triples: a is odd without weight, b has the weight 1, and h_i the weight i + 2 and the lead i + 1.
abbrev pub triple : Letter → Triple
triple A = record { odd = true; weight = 0; lead = 0 }
triple B = record { odd = false; weight = 1; lead = 0 }
triple (H i) = record { odd = false; weight = i + 2; lead = i + 1 }

-- The product of the letters' triples.
abbrev pub value : List Letter → Triple
value [] = nothing
value (x ∷ w) = times (triple x) (value w)

-- b to the power n.
abbrev pub powers : ℕ → List Letter
powers zero = []
powers (suc n) = B ∷ powers n

-- The relations make two words the same, in whatever order letters stand: aa = 1, h_i h_j = h_i b^(j+2) for j
-- up to i, and h_i b^(i+1) = b^(2i+3), beside any other letters.
pub data IsSame : List Letter → List Letter → Type 0 where
  Same : {w : List Letter} → IsSame w w
  Turned : {v w : List Letter} → IsSame v w → IsSame w v
  Then : {u v w : List Letter} → IsSame u v → IsSame v w → IsSame u w
  Under : {x : Letter} {v w : List Letter} → IsSame v w → IsSame (x ∷ v) (x ∷ w)
  Flip : {x y : Letter} {w : List Letter} → IsSame (x ∷ y ∷ w) (y ∷ x ∷ w)
  Square : {w : List Letter} → IsSame (A ∷ A ∷ w) w
  Rulers : {i j : ℕ} {w : List Letter} → j ≤ i
      → IsSame (H i ∷ H j ∷ w) (H i ∷ (powers (j + 2) ++ w))
  Worn : {i : ℕ} (w : List Letter)
      → IsSame (H i ∷ (powers (i + 1) ++ w)) (powers (2 * i + 3) ++ w)
