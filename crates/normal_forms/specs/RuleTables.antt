-- For each letter and each exponent, relations that can't reduce a word for the sake of this letter. This project's own.
use Rattle.std.specs.Prelude.{◌≡◌, ℕ, ◌+◌, ◌*◌, ◌/◌, ◌%◌, ◌<◌, List, [], length, slice_index, slice_index_or, IsTrue}
use Rattle.std.specs.Ordering.{nat_cmp}
use Rattle.std.specs.FinSet as set
use Rattle.presentations.specs.declared.TheConstants.{LETTERS}
use Rattle.relations.specs.Bases.{Divides}
use Rattle.normal_forms.specs.declared.table.TheConstants.{EACH, DEPTH}

-- The numbers below EACH, and a set for each EACH relations, each letter and each exponent below DEPTH.
pub record RuleTable : Type 0 where
  pub all : set.FinSet nat_cmp
  pub rows : List (set.FinSet nat_cmp)

-- Letter i stands in the left word of relation k more than e times, if there is such a relation.
abbrev pub HasMore : List (List ℕ × List ℕ) → ℕ → ℕ → ℕ → Type 0
HasMore relations k i e = (d : List ℕ × List ℕ) → k < length relations
    → e < slice_index (slice_index_or relations k d).0 i

-- The set has numbers of such relations, counted on from one.
abbrev pub IsRow : List (List ℕ × List ℕ) → ℕ → ℕ → ℕ → set.FinSet nat_cmp → Type 0
IsRow relations start i e row = (x : ℕ) → IsTrue (set.contains row x) → HasMore relations (start + x) i e

-- The sets by EACH relations, letter and exponent, in this order.
abbrev pub AreRows : List (List ℕ × List ℕ) → List (set.FinSet nat_cmp) → Type 0
AreRows relations rows = (r : ℕ) → r < length rows
    → IsRow relations (r / DEPTH / LETTERS * EACH) (r / DEPTH % LETTERS) (r % DEPTH)
    (slice_index_or rows r set.empty)

-- The set has all numbers below EACH.
abbrev pub IsAll : set.FinSet nat_cmp → Type 0
IsAll all = (x : ℕ) → x < EACH → IsTrue (set.contains all x)

-- The sets are those of the relations.
pub record IsRuleTable (relations : List (List ℕ × List ℕ)) (table : RuleTable) : Type 0 where
  pub all : IsAll table.all
  pub rows : AreRows relations table.rows

-- Relation k can't reduce the word, if there is such a relation.
abbrev pub IsUseless : List (List ℕ × List ℕ) → ℕ → List ℕ → Type 0
IsUseless relations k word = (d : List ℕ × List ℕ) → k < length relations
    → Divides LETTERS (slice_index_or relations k d).0 word → ⊥

-- The set has numbers of such relations, counted on from one.
abbrev pub AreUseless : List (List ℕ × List ℕ) → ℕ → List ℕ → set.FinSet nat_cmp → Type 0
AreUseless relations start word s = (x : ℕ) → IsTrue (set.contains s x) → IsUseless relations (start + x) word
