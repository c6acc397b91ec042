-- The text of a position: sizes with single spaces between them, or 0 for the position without
-- heaps. This project's own.
use Rattle.std.specs.Prelude.{◌≡◌, ◌≢◌, ℕ, ◌-◌, ◌<◌, ◌≤◌, ◌==◌, List, [], ◌∷◌, ◌++◌, decimal, length, slice_index, map, All, Contains, codes, IsPermutation}
use Rattle.std.specs.Int.Digits.{number_from_digits}
use Rattle.std.specs.List.{slice_split, AllZip}
use Rattle.positions.specs.declared.fault.PositionFault.{PositionFault}
use Rattle.positions.specs.declared.fault.PositionFault.TheVariants.{Text, TooMany, TooLarge, Memory}

-- a byte 0 to 9
abbrev pub IsDigitByte : ℕ → Type 0
IsDigitByte b = (48 ≤ b) × (b ≤ 57)

-- the number that decimal digits write
abbrev pub number_of : List ℕ → ℕ
number_of word = number_from_digits 10 (map (λ b. b - 48) word)

-- one decimal digit or more, the first not 0
pub record IsNumeral (word : List ℕ) : Type 0 where
  pub some : 0 < length word
  pub digits : All IsDigitByte word
  pub first : slice_index word 0 ≢ 48

-- the word is the numeral of this number, which is at least 1
pub record IsNumeralOf (word : List ℕ) (n : ℕ) : Type 0 where
  pub numeral : IsNumeral word
  pub value : n ≡ number_of word

-- what stands between the spaces of a text, and before the first and after the last
abbrev pub words_of : List ℕ → List (List ℕ)
words_of bytes = slice_split (λ b. b == 32) bytes

-- the bytes are the text of these sizes, in this order
abbrev pub IsPositionText : List ℕ → List ℕ → Type 0
IsPositionText bytes [] = bytes ≡ codes "0"
IsPositionText bytes (n ∷ ns) = AllZip IsNumeralOf (words_of bytes) (n ∷ ns)

-- more sizes, each behind a space
abbrev pub text_behind : List ℕ → List ℕ
text_behind [] = []
text_behind (n ∷ ns) = 32 ∷ (decimal n ++ text_behind ns)

-- the text of these sizes, in this order
abbrev pub position_text : List ℕ → List ℕ
position_text [] = codes "0"
position_text (n ∷ ns) = decimal n ++ text_behind ns

-- the bytes are the text of the sizes of X, in some order
pub record IsTextOf (bytes X : List ℕ) : Type 0 where
  pub sizes : List ℕ
  pub text : IsPositionText bytes sizes
  pub same : IsPermutation sizes X

-- the bytes are the text of no sizes
abbrev pub IsNoPositionText : List ℕ → Type 0
IsNoPositionText bytes = (sizes : List ℕ) → IsPositionText bytes sizes → ⊥

-- the bytes are the text of too many sizes
pub record HasTooMany (most : ℕ) (bytes : List ℕ) : Type 0 where
  pub sizes : List ℕ
  pub text : IsPositionText bytes sizes
  pub many : most < length sizes

-- the bytes are the text of not too many sizes, of which one is too large
pub record HasTooLarge (most largest : ℕ) (bytes : List ℕ) : Type 0 where
  pub sizes : List ℕ
  pub text : IsPositionText bytes sizes
  pub few : length sizes ≤ most
  pub large : (n : ℕ) × Contains sizes n × (largest < n)

abbrev pub position_fault_number : PositionFault → ℕ
position_fault_number Text = 1
position_fault_number TooMany = 2
position_fault_number TooLarge = 3
position_fault_number Memory = 9
