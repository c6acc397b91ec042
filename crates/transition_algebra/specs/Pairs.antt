-- Pairs of a value and the set of options' values: their products, and when one covers another. The
-- pairs are the transition algebra of Plambeck and Siegel, "Misère quotients for impartial games";
-- covering is this project's own.
use Rattle.std.specs.Prelude.{◌≡◌, ℕ, ◌<◌, Bool, true, not, ◌&&◌, ◌||◌, nat_eq, map}
use Rattle.std.specs.Ordering.{nat_cmp}
use Rattle.std.specs.FinSet as set
use Rattle.monoid_table.specs.Grids.{Grid, times_in}
use Rattle.transition_algebra.specs.OverSets.{Pair}

-- a value and options' values below the order
pub record IsPair (order : ℕ) (p : Pair) : Type 0 where
  pub value : p.value < order
  pub options : (x : ℕ) → set.contains p.options x ≡ true → x < order

-- the products of v with each of s
abbrev pub translated : Grid → ℕ → set.FinSet nat_cmp → set.FinSet nat_cmp
translated table v s = set.from_list (map (times_in table v) (set.items s))

-- the pair of the empty position
abbrev pub one : Pair
one = record { value = 0; options = set.empty }

-- The pair of a sum: an option of one part beside the other.
abbrev pub times : Grid → Pair → Pair → Pair
times table p r = record {
  value = times_in table p.value r.value;
  options = set.union (translated table p.value r.options) (translated table r.value p.options);
}

abbrev pub is_empty : set.FinSet nat_cmp → Bool
is_empty s = set.is_subset s set.empty

-- the same value, some of the options' values, and one at least where there is one
abbrev pub covers : Pair → Pair → Bool
covers p r =
    nat_eq p.value r.value
    && (set.is_subset p.options r.options && (is_empty r.options || not (is_empty p.options)))
