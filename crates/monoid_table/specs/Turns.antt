-- The laws of a table checked one triple of elements at a time.
use Rattle.std.specs.Prelude.{ℕ, zero, suc, ◌+◌, ◌*◌, ◌/◌, ◌%◌, min, Bool, false, not, ◌&&◌, ◌||◌, ◌==◌, if◌then◌else◌, List}
use Rattle.monoid_table.specs.Grids.{Grid, entry}

-- how many triples were looked at, and whether a law failed at the last of them
pub record JobState : Type 0 where
  pub grid : Grid
  pub spent : ℕ
  pub refused : Bool

-- The triples in their order: (0, 0, 0), (0, 0, 1), .., (order - 1, order - 1, order - 1).
abbrev pub triples : ℕ → ℕ
triples order = order * order * order

-- 0·x is x, xy is yx
abbrev pub pair_holds : ℕ → List ℕ → ℕ → ℕ → Bool
pair_holds order rows x y =
    (entry order rows 0 x == x) && (entry order rows x y == entry order rows y x)

-- (xy)z is x(yz)
abbrev pub groups_alike : ℕ → List ℕ → ℕ → ℕ → ℕ → Bool
groups_alike order rows x y z =
    entry order rows (entry order rows x y) z == entry order rows x (entry order rows y z)

-- whether the laws hold at triple i
unfoldable pub triple_holds : ℕ → List ℕ → ℕ → Bool
triple_holds order rows i =
    pair_holds order rows (i / order / order) (i / order % order)
    && groups_alike order rows (i / order / order) (i / order % order) (i % order)

-- no triple is left to look at
abbrev pub is_over : JobState → Bool
is_over s = s.refused || (s.spent == triples s.grid.order)

-- looks at the next triple
abbrev pub turn : JobState → JobState
turn s =
    if is_over s then s
    else record {
      grid = s.grid;
      spent = s.spent + 1;
      refused = not (triple_holds s.grid.order s.grid.entries s.spent);
    }

unfoldable pub turns : ℕ → JobState → JobState
turns zero s = s
turns (suc n) s = turns n (turn s)

-- nothing looked at yet
abbrev pub fresh : Grid → JobState
fresh g = record { grid = g; spent = 0; refused = false }

-- of the n triples from i on the first at which a law fails, or i + n
unfoldable pub first_failing : Grid → ℕ → ℕ → ℕ
first_failing g i zero = i
first_failing g i (suc n) =
    if triple_holds g.order g.entries i then first_failing g (i + 1) n else i

-- The triples before the first at which a law fails: all of them where none does.
abbrev pub passing : Grid → ℕ
passing g = first_failing g 0 (triples g.order)

-- The turns from the start to the end: the triples that pass, and the one that fails, if there is
-- one.
abbrev pub table_cost : Grid → ℕ
table_cost g = min (passing g + 1) (triples g.order)
