-- The local rule at a pair of a value and its options' values.
use Rattle.std.specs.Prelude.{◌≡◌, ◌⊎◌, ℕ, ◌<◌, true, false, List, length, slice_index_or}
use Rattle.std.specs.FinSet as set
use Rattle.std.specs.Ordering.{nat_cmp}
use Rattle.transition_algebra.specs.OverSets.{Pair}
use Rattle.pair_closure.specs.OverSets.{Held}
use Rattle.pair_closure.specs.ClosureViews.{blank_held}

-- inside the portion there is an option; outside, where there is one, there is one in the portion
pub record Obeys (inside : set.FinSet nat_cmp) (p : Pair) : Type 0 where
  pub some : set.contains inside p.value ≡ true → (x : ℕ) × (set.contains p.options x ≡ true)
  pub leads : set.contains inside p.value ≡ false → (x : ℕ) → set.contains p.options x ≡ true
      → (y : ℕ) × (set.contains p.options y ≡ true) × (set.contains inside y ≡ true)

-- inside the portion without an option, or outside with options but none in the portion
abbrev pub Breaks : set.FinSet nat_cmp → Pair → Type 0
Breaks inside p =
    ((set.contains inside p.value ≡ true) × ((x : ℕ) → set.contains p.options x ≡ true → ⊥))
    ⊎ ((set.contains inside p.value ≡ false)
    × ((x : ℕ) × (set.contains p.options x ≡ true))
    × ((y : ℕ) → set.contains p.options y ≡ true → set.contains inside y ≡ false))

-- each member held obeys the rule
abbrev pub HeldObey : set.FinSet nat_cmp → List Held → Type 0
HeldObey inside held = (i : ℕ) → i < length held
    → Obeys inside (slice_index_or held i blank_held).pair
