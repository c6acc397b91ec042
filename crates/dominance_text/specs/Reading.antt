-- Reading from left to right: a value and the bytes behind it, or nothing. It says what a reader
-- does; that this is the spelling is the law `reading_is_spelling`. This project's own.
use Rattle.std.specs.Prelude.{ℕ, ◌+◌, ◌-◌, List, Option, Some, codes}
use Rattle.certificate_text.specs.Reading.{◌>>=◌, fixed_at, number_at, line_at, field_at, code_line_at}
use Rattle.dominance_text.specs.declared.TheConstants.{MOST_LABELS, LARGEST_WEIGHT}
use Rattle.dominance_text.specs.Said.{DominanceSaid}

-- the code, the start, the period and the rise
unfoldable pub front_at : List ℕ → Option ((List ℕ × ℕ × ℕ × ℕ) × List ℕ)
front_at bytes = do
  named ← fixed_at (codes "mqw 1\ncode ") bytes
  code ← code_line_at named
  start ← field_at (codes "start") 1 (MOST_LABELS + 1) code.1
  period ← field_at (codes "period") 1 (MOST_LABELS + 2 - start.0) start.1
  rise ← field_at (codes "rise") 1 (LARGEST_WEIGHT + 1) period.1
  Some ((code.0, start.0, period.0, rise.0), rise.1)

-- three lines of so many numbers
unfoldable pub labels_at : ℕ → List ℕ → Option ((List ℕ × List ℕ × List ℕ) × List ℕ)
labels_at count bytes = do
  odd ← line_at (codes "odd") (number_at 2) count bytes
  weights ← line_at (codes "weights") (number_at (LARGEST_WEIGHT + 1)) count odd.1
  leads ← line_at (codes "leads") (number_at (LARGEST_WEIGHT + 1)) count weights.1
  Some ((odd.0, weights.0, leads.0), leads.1)

abbrev pub said_of : List ℕ × ℕ × ℕ × ℕ → List ℕ × List ℕ × List ℕ → DominanceSaid
said_of front labels = record {
  code = front.0;
  start = front.1;
  period = front.2;
  rise = front.3;
  odd = labels.0;
  weights = labels.1;
  leads = labels.2;
}

-- all lines
unfoldable pub said_at : List ℕ → Option (DominanceSaid × List ℕ)
said_at bytes = do
  front ← front_at bytes
  labels ← labels_at (front.0.1 + front.0.2 - 1) front.1
  ended ← fixed_at (codes "end\n") labels.1
  Some (said_of front.0 labels.0, ended)
