-- Reading from left to right. It says what the reader does; that this is the spelling is the law
-- `reading_tables_is_spelling`. This project's own.
use Rattle.std.specs.Prelude.{ℕ, ◌+◌, ◌-◌, List, Option, Some, codes}
use Rattle.certificate_text.specs.Reading.{◌>>=◌, fixed_at, number_at, line_at, portion_at, numbers_at, rows_at}
use Rattle.own_quotients.specs.Tables.{Own}

-- the lines before the rows: what stands in front, the heaps and the portion
unfoldable pub own_lists_at : List ℕ
    → Option (((List ℕ × ℕ × ℕ × ℕ) × List ℕ × List ℕ) × List ℕ)
own_lists_at bytes = do
  named ← fixed_at (codes "table 1\n") bytes
  front ← numbers_at named
  heaps ← line_at (codes "heaps") (number_at front.0.1) (front.0.2 + front.0.3 - 1) front.1
  portion ← portion_at front.0.1 heaps.1
  Some ((front.0, heaps.0, portion.0), portion.1)

abbrev pub own_of : (List ℕ × ℕ × ℕ × ℕ) × List ℕ × List ℕ → List ℕ → Own
own_of lists rows = record {
  code = lists.0.0;
  order = lists.0.1;
  start = lists.0.2;
  period = lists.0.3;
  heaps = lists.1;
  portion = lists.2;
  rows = rows;
}

unfoldable pub own_at : List ℕ → Option (Own × List ℕ)
own_at bytes = do
  lists ← own_lists_at bytes
  rows ← rows_at lists.0.0.1 lists.0.0.1 lists.1
  ended ← fixed_at (codes "end\n") rows.1
  Some (own_of lists.0 rows.0, ended)
