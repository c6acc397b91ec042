-- Sets of numbers in lanes of 64 bits, and the contexts of a table's elements. A context is the set
-- of the elements with which a product is in the portion; after Plambeck and Siegel's reduced
-- monoids.
use Rattle.std.specs.Prelude.{◌≡◌, ℕ, ◌+◌, ◌*◌, ◌/◌, ◌%◌, ◌<◌, ◌==◌, nat_lt, ◌&&◌, ◌++◌, Bool, false, List, length, slice_index, slice_index_or, slice_range}
use Rattle.std.specs.Int.{bit_at}
use Rattle.misere_theory.specs.Quotients.{Claim}

-- Whether the bit of z is set.
abbrev pub has : List ℕ → ℕ → Bool
has lanes z = bit_at (slice_index lanes (z / 64)) (z % 64) == 1

-- Whether the j-th of these elements is marked.
abbrev pub is_marked : List ℕ → List Bool → ℕ → Bool
is_marked elements marked j =
    nat_lt j (length elements) && slice_index_or marked (slice_index elements j) false

-- Behind the lanes stand those of one set more, of the places of a row whose entries are marked.
pub record AppendsContext (before after row : List ℕ) (marked : List Bool) : Type 0 where
  pub more : List ℕ
  pub behind : after ≡ before ++ more
  pub long : length more ≡ (length row + 63) / 64
  pub bits : (z : ℕ) → has more z ≡ is_marked row marked z

-- Of each element so many lanes, one behind the other, and in them its context.
pub record AreContexts (c : Claim) (count : ℕ) (lanes : List ℕ) : Type 0 where
  pub long : length lanes ≡ c.order * count
  pub bits : (x z : ℕ) → x < c.order
      → has (slice_range lanes (x * count) (x * count + count)) z
      ≡ (nat_lt z c.order && c.portion (c.times x z))

-- The claim of rows that lie one behind the other, with the marked elements as its portion. It
-- speaks of no heap.
abbrev pub claim_in : ℕ → List ℕ → List Bool → Claim
claim_in order rows marked = record {
  order = order;
  times = λ x y. slice_index rows (x * order + y);
  phi = λ _. 0;
  portion = λ x. slice_index_or marked x false;
}
