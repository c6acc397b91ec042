-- Reading from left to right: a value and the bytes behind it, or nothing. It says what a reader
-- does; that this is the spelling is the law `reading_is_spelling`. This project's own.
use Rattle.std.specs.Prelude.{ℕ, zero, suc, ◌+◌, ◌-◌, ◌*◌, ◌/◌, List, [], ◌∷◌, ◌++◌, length, take, drop, slice_index, Option, Some, None, Bool, nat_lt, nat_le, ◌&&◌, ◌==◌, if◌then◌else◌, codes}
use Rattle.misere_theory.specs.declared.TheConstants.{LARGEST_ORDER, MOST_ENTRIES, LARGEST_PART}
use Rattle.misere_theory.specs.Certificates.{Certificate, format_by, format_of}
use Rattle.compact_certificates.specs.Rows.{firsts_of}
use Rattle.compact_certificates.specs.Compact.{expanded, is_expandable}
use Rattle.certificate_text.specs.declared.TheConstants.{LONGEST_TEXT}

infixl 10 ◌>>=◌
abbrev pub ◌>>=◌ : {A B : Type 0} → Option A → (A → Option B) → Option B
(Some x) >>= f = f x
None >>= f = None

-- what stood before, and what is read
abbrev pub with_front : {X : Type 0} → List X → Option (List X × List ℕ) → Option (List X × List ℕ)
with_front front read = read >>= λ x. Some (front ++ x.0, x.1)

-- these bytes
unfoldable pub fixed_at : List ℕ → List ℕ → Option (List ℕ)
fixed_at [] bytes = Some bytes
fixed_at (w ∷ ws) [] = None
fixed_at (w ∷ ws) (b ∷ bytes) = if w == b then fixed_at ws bytes else None

abbrev pub is_digit : ℕ → Bool
is_digit b = nat_le 48 b && nat_le b 57

-- the further digits of a number
unfoldable pub more_at : ℕ → ℕ → List ℕ → Option (ℕ × List ℕ)
more_at limit n [] = Some (n, [])
more_at limit n (b ∷ bytes) =
    if is_digit b
    then (if nat_lt (10 * n + (b - 48)) limit then more_at limit (10 * n + (b - 48)) bytes else
    None)
    else Some (n, b ∷ bytes)

-- a number below limit
unfoldable pub number_at : ℕ → List ℕ → Option (ℕ × List ℕ)
number_at limit [] = None
number_at limit (b ∷ bytes) =
    if b == 48 then Some (0, bytes)
    else if is_digit b then (if nat_lt (b - 48) limit then more_at limit (b - 48) bytes else None)
    else None

-- f:h, both below their limits, and h at least 1
unfoldable pub key_at : ℕ → ℕ → List ℕ → Option ((ℕ × ℕ) × List ℕ)
key_at order heaps bytes = do
  f ← number_at order bytes
  colon ← fixed_at (58 ∷ []) f.1
  h ← number_at heaps colon
  if nat_lt 0 h.0 then Some ((f.0, h.0), h.1) else None

-- count words, each behind a space
unfoldable pub words_at : {X : Type 0} → (List ℕ → Option (X × List ℕ)) → ℕ → List ℕ
    → Option (List X × List ℕ)
words_at word zero bytes = Some ([], bytes)
words_at word (suc n) bytes = do
  space ← fixed_at (32 ∷ []) bytes
  x ← word space
  xs ← words_at word n x.1
  Some (x.0 ∷ xs.0, xs.1)

-- a line of count words
unfoldable pub line_at : {X : Type 0} → List ℕ → (List ℕ → Option (X × List ℕ)) → ℕ → List ℕ
    → Option (List X × List ℕ)
line_at name word count bytes = do
  named ← fixed_at name bytes
  xs ← words_at word count named
  ended ← fixed_at (10 ∷ []) xs.1
  Some (xs.0, ended)

-- a line of one number, from least up to below limit
unfoldable pub field_at : List ℕ → ℕ → ℕ → List ℕ → Option (ℕ × List ℕ)
field_at name least limit bytes = do
  named ← fixed_at name bytes
  space ← fixed_at (32 ∷ []) named
  x ← number_at limit space
  ended ← fixed_at (10 ∷ []) x.1
  if nat_lt x.0 least then None else Some (x.0, ended)

-- where something may stand: what then, and what else
abbrev pub otherwise : {A B : Type 0} → Option A → B → (A → B) → B
otherwise None y f = y
otherwise (Some x) y f = f x

-- at most room numbers that rise from least up to below limit, for as long as spaces stand
unfoldable pub rising_at : ℕ → ℕ → ℕ → List ℕ → Option (List ℕ × List ℕ)
rising_at limit zero least bytes = Some ([], bytes)
rising_at limit (suc room) least bytes =
    otherwise (fixed_at (32 ∷ []) bytes) (Some ([], bytes)) (λ space. number_at limit space >>= λ x.
    if nat_lt x.0 least then None
    else with_front (x.0 ∷ []) (rising_at limit room (x.0 + 1) x.1))

-- the portion's line
unfoldable pub portion_at : ℕ → List ℕ → Option (List ℕ × List ℕ)
portion_at order bytes = do
  named ← fixed_at (codes "portion") bytes
  xs ← rising_at order order 0 named
  ended ← fixed_at (10 ∷ []) xs.1
  if length xs.0 == 0 then None else Some (xs.0, ended)

-- a digit of a code: 0 to 9, and a to f for 10 to 15
unfoldable pub code_digit_at : List ℕ → Option (ℕ × List ℕ)
code_digit_at [] = None
code_digit_at (b ∷ bytes) =
    if nat_le 48 b && nat_le b 57 then Some (b - 48, bytes)
    else if nat_le 97 b && nat_le b 102 then Some (b - 87, bytes) else None

-- at most room of them
unfoldable pub code_digits_at : ℕ → List ℕ → Option (List ℕ × List ℕ)
code_digits_at zero bytes = Some ([], bytes)
code_digits_at (suc room) bytes =
    otherwise (code_digit_at bytes) (Some ([], bytes))
    (λ d. with_front (d.0 ∷ []) (code_digits_at room d.1))

-- a point and the digits, behind the first one
unfoldable pub digits_behind : ℕ → List ℕ → Option (List ℕ × List ℕ)
digits_behind d bytes = do
  point ← fixed_at (46 ∷ []) bytes
  ds ← with_front (d ∷ []) (code_digits_at 16 point)
  if nat_lt (length ds.0) 2 then None else
      if slice_index ds.0 (length ds.0 - 1) == 0 then None else Some ds

-- 0., 4., 8. or c. and one to sixteen digits, the last not 0
unfoldable pub code_at : List ℕ → Option (List ℕ × List ℕ)
code_at [] = None
code_at (d ∷ bytes) =
    if d == 48 then digits_behind 0 bytes
    else if d == 52 then digits_behind 4 bytes
    else if d == 56 then digits_behind 8 bytes
    else if d == 99 then digits_behind 12 bytes else None

-- the code and the end of its line
unfoldable pub code_line_at : List ℕ → Option (List ℕ × List ℕ)
code_line_at bytes = do
  code ← code_at bytes
  ended ← fixed_at (10 ∷ []) code.1
  Some (code.0, ended)

-- n rows, one after the other
unfoldable pub rows_at : ℕ → ℕ → List ℕ → Option (List ℕ × List ℕ)
rows_at order zero bytes = Some ([], bytes)
rows_at order (suc n) bytes = do
  row ← line_at (codes "row") (number_at order) order bytes
  with_front row.0 (rows_at order n row.1)

-- the rows that lie one behind the other
abbrev pub rows_of : ℕ → ℕ → List ℕ → List (List ℕ)
rows_of order zero xs = []
rows_of order (suc n) xs = take order xs ∷ rows_of order n (drop order xs)

-- the least period beside a start: a start of 1 leaves no part, and neither does one above
-- LARGEST_PART + 1
abbrev pub least_period : ℕ → ℕ
least_period start = if nat_lt (LARGEST_PART + 1) start then 1 else 2 - start

-- the lines from the code's to the period's
unfoldable pub numbers_at : List ℕ → Option ((List ℕ × ℕ × ℕ × ℕ) × List ℕ)
numbers_at bytes = do
  named ← fixed_at (codes "code ") bytes
  code ← code_line_at named
  order ← field_at (codes "order") 2 (LARGEST_ORDER + 1) code.1
  start ← field_at (codes "start") 1 (MOST_ENTRIES + 2) order.1
  period ← field_at (codes "period") (least_period start.0) (MOST_ENTRIES + 2 - start.0) start.1
  Some ((code.0, order.0, start.0, period.0), period.1)

-- the lines up to the period's, of the format that these numbers have
unfoldable pub front_at : List ℕ → Option ((List ℕ × ℕ × ℕ × ℕ) × List ℕ)
front_at bytes = do
  format ← field_at (codes "mqc") 1 4 bytes
  front ← numbers_at format.1
  if format.0 == format_by front.0.0 front.0.1 front.0.2 front.0.3 then Some front else None

-- the lines before the table's: a certificate without rows and separators
unfoldable pub lists_at : List ℕ → Option (Certificate × List ℕ)
lists_at bytes = do
  front ← front_at bytes
  phi ← line_at (codes "phi") (number_at front.0.1) (front.0.2 + front.0.3 - 1) front.1
  portion ← portion_at front.0.1 phi.1
  words ← line_at (codes "words") (key_at front.0.1 (front.0.2 + front.0.3)) (front.0.1 - 1)
      portion.1
  Some (
    record {
      code = front.0.0;
      order = front.0.1;
      start = front.0.2;
      period = front.0.3;
      phi = phi.0;
      portion = portion.0;
      words = words.0;
      rows = [];
      apart = [];
    },
    words.1,
  )

-- the rows and the separators
unfoldable pub table_at : Certificate → List ℕ → Option (Certificate × List ℕ)
table_at c bytes = do
  rows ← rows_at c.order c.order bytes
  apart ← line_at (codes "apart") (number_at c.order) (c.order * (c.order - 1) / 2) rows.1
  ended ← fixed_at (codes "end\n") apart.1
  Some (record c { rows = rows_of c.order c.order rows.0; apart = apart.0 }, ended)

-- the first rows alone, and all that follows from them
unfoldable pub first_rows_at : Certificate → List ℕ → Option (Certificate × List ℕ)
first_rows_at c bytes = do
  rows ← rows_at c.order (firsts_of c.words) bytes
  ended ← fixed_at (codes "end\n") rows.1
  if is_expandable c then
      Some (expanded (record c { rows = rows_of c.order (firsts_of c.words) rows.0 }), ended)
      else None

-- all lines: in the third format the first rows alone, of a text that isn't too long
unfoldable pub certificate_at : List ℕ → Option (Certificate × List ℕ)
certificate_at bytes = do
  lists ← lists_at bytes
  if format_of lists.0 == 3 then (do
    made ← first_rows_at lists.0 lists.1
    if nat_le (length bytes) (LONGEST_TEXT + length made.1) then Some made else None)
      else table_at lists.0 lists.1
