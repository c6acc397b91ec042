-- A table that somebody brings: a code, products, the heaps' elements and the portion, in any
-- numbering of the elements. This project's own, but for what it says of monoids.
use Rattle.std.specs.Prelude.{◌≡◌, ◌≢◌, ℕ, ◌+◌, ◌*◌, ◌≤◌, ◌<◌, ◌==◌, List, length, All, slice_index}
use Rattle.std.specs.List.{list_any}
use Rattle.std.specs.List.Sorted.{IsStrictlyIncreasing}
use Rattle.misere_theory.specs.declared.TheConstants.{LARGEST_ORDER, MOST_ENTRIES, LARGEST_PART}
use Rattle.misere_theory.specs.Quotients.{Claim}
use Rattle.misere_theory.specs.Certificates.{IsCode}
use Rattle.monoid_table.specs.Grids.{entry}
use Rattle.monoid_table.specs.Pretending.{Pretending, phi_at}

-- The elements are the numbers below the order. heaps has the elements of the heaps 1, 2, .., to
-- start + period - 1; from start on they repeat with the period, and with a period of 0 there are no
-- more heaps. The rows of the products lie one behind the other.
pub record Own : Type 0 where
  pub code : List ℕ
  pub order : ℕ
  pub start : ℕ
  pub period : ℕ
  pub heaps : List ℕ
  pub portion : List ℕ
  pub rows : List ℕ

-- its pretending function
abbrev pub own_phi : Own → Pretending
own_phi o = record { start = o.start; period = o.period; entries = o.heaps }

-- What it says of its code's game, but that its identity may be any element.
abbrev pub own_claim : Own → Claim
own_claim o =
    record {
      order = o.order;
      times = entry o.order o.rows;
      phi = phi_at (own_phi o);
      portion = λ x. list_any (λ y. y == x) o.portion;
    }

-- Each number is in its range, as in a certificate.
pub record IsOwn (o : Own) : Type 0 where
  pub code : IsCode o.code
  pub order : (2 ≤ o.order) × (o.order ≤ LARGEST_ORDER)
  pub start : 1 ≤ o.start
  pub period : (2 ≤ o.start + o.period) × (o.start + o.period ≤ MOST_ENTRIES + 1)
  pub part : o.period ≡ 0 → o.start ≤ LARGEST_PART + 1
  pub heaps : (length o.heaps + 1 ≡ o.start + o.period) × All (λ x. x < o.order) o.heaps
  pub portion : (1 ≤ length o.portion) × All (λ x. x < o.order) o.portion
      × IsStrictlyIncreasing o.portion
  pub rows : (length o.rows ≡ o.order * o.order) × All (λ x. x < o.order) o.rows

-- Multiplied by it from the left, each element stays.
abbrev pub IsIdentity : Own → ℕ → Type 0
IsIdentity o e = (x : ℕ) → x < o.order → entry o.order o.rows e x ≡ x

-- The two products of x and y differ.
abbrev pub AreNotCommuting : Own → ℕ → ℕ → Type 0
AreNotCommuting o x y =
    (x < o.order) × (y < o.order) × (entry o.order o.rows x y ≢ entry o.order o.rows y x)

-- (xy)z isn't x(yz).
abbrev pub AreNotAssociating : Own → ℕ → ℕ → ℕ → Type 0
AreNotAssociating o x y z =
    (x < o.order) × (y < o.order) × (z < o.order)
    × (entry o.order o.rows (entry o.order o.rows x y) z
    ≢ entry o.order o.rows x (entry o.order o.rows y z))

-- The elements of positions: that of the empty one, which is e, and each one times the element of
-- a heap.
pub data IsReached (o : Own) (e : ℕ) : ℕ → Type 0 where
  Empty : IsReached o e e
  Heap : {x : ℕ} (i : ℕ) → i < length o.heaps → IsReached o e x
      → IsReached o e (entry o.order o.rows x (slice_index o.heaps i))

-- Two elements that no element takes apart: whatever both are multiplied by, both products are in
-- the portion or neither is. In a quotient there are none: Plambeck and Siegel's reduced monoids.
pub record AreAlike (o : Own) (x y : ℕ) : Type 0 where
  pub two : (x < y) × (y < o.order)
  pub alike : (z : ℕ) → z < o.order → (own_claim o).portion (entry o.order o.rows x z)
      ≡ (own_claim o).portion (entry o.order o.rows y z)
