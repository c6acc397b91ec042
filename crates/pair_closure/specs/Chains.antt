-- How the members ever kept are chained by their values.
use Rattle.std.specs.Prelude.{◌≡◌, ℕ, zero, suc, ◌<◌, cond, nat_eq, List, length, slice_index, slice_index_or}
use Rattle.transition_algebra.specs.Pairs.{one}
use Rattle.pair_closure.specs.OverSets.{Member}

abbrev pub blank : Member
blank = record { pair = one; parent = 0; heap = 0 }

-- one more than the place of the last of the first n members whose value is v, or 0 where none is
abbrev pub last_with : List Member → ℕ → ℕ → ℕ
last_with members v zero = 0
last_with members v (suc n) =
    cond (nat_eq (slice_index_or members n blank).pair.value v) (suc n) (last_with members v n)

-- from each member to the one before it with its value, and for each value its last member
pub record AreChained (members : List Member) (older newest : List ℕ) : Type 0 where
  pub length_is : length older ≡ length members
  pub before : (i : ℕ) → i < length members
      → slice_index older i ≡ last_with members (slice_index_or members i blank).pair.value i
  pub last : (v : ℕ) → slice_index newest v ≡ last_with members v (length members)
