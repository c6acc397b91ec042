-- Reading from left to right: a value and the bytes behind it, or nothing. It says what a reader
-- does; that this is the spelling is the law `reading_is_spelling`. This project's own.
use Rattle.std.specs.Prelude.{ℕ, zero, suc, ◌+◌, ◌==◌, List, [], ◌∷◌, length, Option, Some, None, nat_lt, if◌then◌else◌, codes}
use Rattle.certificate_text.specs.Reading.{◌>>=◌, with_front, otherwise, fixed_at, number_at, code_line_at}
use Rattle.presented_text.specs.Read.{spelled_at}
use Rattle.presented_text.specs.declared.TheConstants.{MOST_HEAPS, MOST_ITEMS, LARGEST_CYCLE, MOST_GENERATORS}
use Rattle.presented_text.specs.Said.{PresentedSaid}

-- at most room words, for as long as the sign before them stands
unfoldable pub while_at : {X : Type 0} → List ℕ → (List ℕ → Option (X × List ℕ)) → ℕ → List ℕ
    → Option (List X × List ℕ)
while_at sign word zero bytes = Some ([], bytes)
while_at sign word (suc room) bytes =
    otherwise (fixed_at sign bytes) (Some ([], bytes)) (λ after. word after >>= λ x.
    with_front (x.0 ∷ []) (while_at sign word room x.1))

-- a line of at most room words
unfoldable pub some_at : {X : Type 0} → List ℕ → (List ℕ → Option (X × List ℕ)) → ℕ → List ℕ
    → Option (List X × List ℕ)
some_at name word room bytes = do
  named ← fixed_at name bytes
  xs ← while_at (codes " ") word room named
  ended ← fixed_at (10 ∷ []) xs.1
  Some (xs.0, ended)

-- a line of count words
unfoldable pub exact_at : {X : Type 0} → List ℕ → (List ℕ → Option (X × List ℕ)) → ℕ → List ℕ
    → Option (List X × List ℕ)
exact_at name word count bytes = do
  xs ← some_at name word count bytes
  if length xs.0 == count then Some xs else None

-- a number from 1 up to below limit
unfoldable pub positive_at : ℕ → List ℕ → Option (ℕ × List ℕ)
positive_at limit bytes = do
  x ← number_at limit bytes
  if nat_lt x.0 1 then None else Some x

-- the word of a heap, or the sign that it is left out
unfoldable pub heap_word_at : List ℕ → Option (Option (List ℕ) × List ℕ)
heap_word_at bytes =
    otherwise (fixed_at (codes "-") bytes) (spelled_at bytes >>= λ w. Some (Some w.0, w.1))
    (λ rest. Some (None, rest))

-- two words with a space between them, and the end of the line
unfoldable pub relation_at : List ℕ → Option ((List ℕ × List ℕ) × List ℕ)
relation_at bytes = do
  left ← spelled_at bytes
  space ← fixed_at (codes " ") left.1
  right ← spelled_at space
  ended ← fixed_at (10 ∷ []) right.1
  Some ((left.0, right.0), ended)

-- a start and a period with a colon between them
unfoldable pub cycle_at : List ℕ → Option ((ℕ × ℕ) × List ℕ)
cycle_at bytes = do
  start ← number_at (LARGEST_CYCLE + 1) bytes
  colon ← fixed_at (codes ":") start.1
  period ← positive_at (LARGEST_CYCLE + 1) colon
  Some ((start.0, period.0), period.1)

-- the code, the heaps and the period
unfoldable pub front_at : List ℕ → Option ((List ℕ × ℕ × ℕ) × List ℕ)
front_at bytes = do
  named ← fixed_at (codes "mqp 1\ncode ") bytes
  code ← code_line_at named
  counted ← fixed_at (codes "heaps ") code.1
  heaps ← positive_at (MOST_HEAPS + 1) counted
  period ← otherwise (fixed_at (codes " period ") heaps.1) (Some (0, heaps.1)) (positive_at (heaps.0 + 1))
  ended ← fixed_at (10 ∷ []) period.1
  Some ((code.0, heaps.0, period.0), ended)

-- all lines
unfoldable pub said_at : List ℕ → Option (PresentedSaid × List ℕ)
said_at bytes = do
  front ← front_at bytes
  letters ← some_at (codes "letters") (positive_at (MOST_HEAPS + 1)) MOST_GENERATORS front.1
  words ← exact_at (codes "words") heap_word_at front.0.1 letters.1
  relations ← while_at (codes "relation ") relation_at MOST_ITEMS words.1
  cycles ← exact_at (codes "cycle") cycle_at (length letters.0) relations.1
  portion ← some_at (codes "portion") spelled_at MOST_ITEMS cycles.1
  ended ← fixed_at (codes "end\n") portion.1
  Some (
    record {
      code = front.0.0;
      heaps = front.0.1;
      period = front.0.2;
      letters = letters.0;
      words = words.0;
      relations = relations.0;
      cycles = cycles.0;
      portion = portion.0;
    },
    ended,
  )
