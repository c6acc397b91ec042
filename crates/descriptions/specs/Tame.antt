-- Tame quotients: those of Nim, T_n. Plambeck and Siegel; Siegel, chapter V.
use Rattle.std.specs.Prelude.{◌≡◌, ◌≢◌, ℕ, ◌+◌, ◌^◌, ◌<◌, ◌≤◌, ◌==◌, ◌&&◌, ◌||◌, Bool, true}
use Rattle.misere_theory.specs.Quotients.{SameQuotient}
use Rattle.misere_theory.specs.Certificates.{Certificate, claim_of}
use Rattle.monoid_table.specs.Grids.{Grid, times_in}
use Rattle.certificate.specs.Fields.{grid_of}

-- x is the identity, or a, or its square is e and its product with e is x itself
abbrev pub is_in_group : Grid → ℕ → ℕ → ℕ → Bool
is_in_group t a e x =
    (x == 0) || ((x == a) || ((times_in t x x == e) && (times_in t e x == x)))

-- The identity and a with a·a = 1, and beside them a group with the identity e in which each square
-- is e; a·e isn't e, and the portion is a and e.
pub record IsTameBy (c : Certificate) (a e : ℕ) : Type 0 where
  pub a_in : a < c.order
  pub e_in : e < c.order
  pub a_other : a ≢ 0
  pub e_other : e ≢ 0
  pub apart : a ≢ e
  pub square : times_in (grid_of c) a a ≡ 0
  pub moves : times_in (grid_of c) a e ≢ e
  pub portion : (x : ℕ) → x < c.order → (claim_of c).portion x ≡ ((x == a) || (x == e))
  pub group : (x : ℕ) → x < c.order → is_in_group (grid_of c) a e x ≡ true

-- The quotient is T_n: for n = 1 the identity and a, with a·a = 1 and the portion a; for n from 2 on
-- the identity, a, and an elementary abelian group of order 2^n.
pub data IsTame (c : Certificate) : ℕ → Type 0 where
  First : c.order ≡ 2 → times_in (grid_of c) 1 1 ≡ 0
      → ((x : ℕ) → x < 2 → (claim_of c).portion x ≡ (x == 1))
      → IsTame c 1
  Next : (n : ℕ) → 2 ≤ n → c.order ≡ 2 ^ n + 2 → (a e : ℕ) → IsTameBy c a e → IsTame c n

-- The same bipartite monoid up to the numbering: the same quotient where no heap counts. Plambeck
-- and Siegel.
abbrev pub AreIsomorphic : Certificate → Certificate → Type 0
AreIsomorphic c d =
    (f : ℕ → ℕ) × (g : ℕ → ℕ) × SameQuotient (λ n. ⊥) (claim_of c) (claim_of d) f g
