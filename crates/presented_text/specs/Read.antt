-- Reading a word from left to right: it and the bytes behind it, or nothing. It says what a reader does; that
-- this is the spelling is the law `words_are_read`. This project's own.
use Rattle.std.specs.Prelude.{ℕ, zero, suc, ◌+◌, ◌==◌, List, [], ◌∷◌, Option, Some, None, nat_lt, if◌then◌else◌, codes}
use Rattle.certificate_text.specs.Reading.{◌>>=◌, otherwise, fixed_at, number_at}
use Rattle.presentations.specs.declared.TheConstants.{LETTERS}
use Rattle.presentations.specs.Vectors.{zeros}
use Rattle.relations.specs.Bases.{letter_count}
use Rattle.presented_text.specs.declared.TheConstants.{LARGEST_POWER}

-- an exponent above 1
unfoldable pub exponent_at : List ℕ → Option (ℕ × List ℕ)
exponent_at bytes = do
  x ← number_at (LARGEST_POWER + 1) bytes
  if nat_lt x.0 2 then None else Some x

-- the exponent of a letter, 0 if it doesn't come next
unfoldable pub power_at : ℕ → List ℕ → Option (ℕ × List ℕ)
power_at letter bytes =
    otherwise (fixed_at ((97 + letter) ∷ []) bytes) (Some (0, bytes))
    (λ after. otherwise (fixed_at (94 ∷ []) after) (Some (1, after)) exponent_at)

-- the exponents of so many letters, from one on
unfoldable pub powers_at : ℕ → ℕ → List ℕ → Option (List ℕ × List ℕ)
powers_at letter zero bytes = Some ([], bytes)
powers_at letter (suc n) bytes = do
  x ← power_at letter bytes
  xs ← powers_at (suc letter) n x.1
  Some (x.0 ∷ xs.0, xs.1)

-- some letters
unfoldable pub letters_at : List ℕ → Option (List ℕ × List ℕ)
letters_at bytes = do
  word ← powers_at 0 LETTERS bytes
  if letter_count LETTERS word.0 == 0 then None else Some word

-- 1, or some letters
unfoldable pub spelled_at : List ℕ → Option (List ℕ × List ℕ)
spelled_at bytes =
    otherwise (fixed_at (codes "1") bytes) (letters_at bytes) (λ rest. Some (zeros LETTERS, rest))
