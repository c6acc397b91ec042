-- A table that somebody brings, in the numbers of a certificate. This project's own, after the
-- isomorphic bipartite monoids of Plambeck and Siegel.
use Rattle.std.specs.Prelude.{◌≡◌, ℕ, ◌<◌, List, length, slice_index}
use Rattle.misere_theory.specs.Certificates.{Certificate, claim_of, times_of}
use Rattle.monoid_table.specs.Grids.{entry}
use Rattle.own_quotients.specs.Tables.{Own, own_claim}

-- Each element below the order has a number below it, and this number that element again.
abbrev pub AreInverse : ℕ → List ℕ → List ℕ → Type 0
AreInverse order numbers elements =
    (x : ℕ) → x < order
    → (slice_index numbers x < order) × (slice_index elements (slice_index numbers x) ≡ x)

-- numbers has for each element of the table its number in the certificate, and elements for each
-- number its element. With them the table's identity, products, heaps' elements and portion are
-- those of the certificate.
pub record IsCarried (o : Own) (identity : ℕ) (c : Certificate) (numbers elements : List ℕ)
    : Type 0 where
  pub code : c.code ≡ o.code
  pub order : c.order ≡ o.order
  pub start : c.start ≡ o.start
  pub period : c.period ≡ o.period
  pub there : AreInverse o.order numbers elements
  pub back : AreInverse o.order elements numbers
  pub unit : (identity < o.order) × (slice_index numbers identity ≡ 0)
  pub products : (x y : ℕ) → x < o.order → y < o.order
      → slice_index numbers (entry o.order o.rows x y)
      ≡ times_of c (slice_index numbers x) (slice_index numbers y)
  pub heaps : (i : ℕ) → i < length o.heaps
      → slice_index numbers (slice_index o.heaps i) ≡ slice_index c.phi i
  pub portion : (x : ℕ) → x < o.order
      → (claim_of c).portion (slice_index numbers x) ≡ (own_claim o).portion x
