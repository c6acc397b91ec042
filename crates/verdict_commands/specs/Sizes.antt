-- What is wrong with a text that is no position. This project's own.
use Rattle.std.specs.Prelude.{◌≡◌, ◌≢◌, ◌≤◌, ◌<◌, ◌+◌, ◌++◌, ℕ, List, [], ◌∷◌, All, Contains, codes, length, slice_index}
use Rattle.positions.specs.Positions.{IsSize}
use Rattle.positions.specs.Text.{IsDigitByte, IsNumeral, IsPositionText, number_of, words_of}
use Rattle.verdict_commands.specs.declared.faults.WrittenPositionFault.{WrittenPositionFault}
use Rattle.verdict_commands.specs.declared.faults.WrittenPositionFault.TheVariants.{Empty, NoSize, Byte, Zero, Leading, Large, Many}

-- the word is the one of this number, counted from 1, of those between the spaces of the text
pub record HasWord (text : List ℕ) (number : ℕ) (word : List ℕ) : Type 0 where
  pub before : List (List ℕ)
  pub behind : List (List ℕ)
  pub here : words_of text ≡ before ++ word ∷ behind
  pub count : number ≡ length before + 1

-- the word of this number has this fault
abbrev pub IsWordFault : (number : ℕ) (word : List ℕ) → WrittenPositionFault → Type 0
IsWordFault number word (NoSize at) = (at ≡ number) × (word ≡ [])
IsWordFault number word (Byte at byte) =
    (at ≡ number) × Contains word byte × (IsDigitByte byte → ⊥)
IsWordFault number word (Zero at) = (at ≡ number) × (word ≡ codes "0")
IsWordFault number word (Leading at) =
    (at ≡ number) × (0 < length word) × (slice_index word 0 ≡ 48)
IsWordFault number word (Large at) =
    (at ≡ number) × (1000000000000000000 < number_of word)
IsWordFault number word _ = ⊥

-- a word of the text has this fault
pub record HasWordFault (text : List ℕ) (fault : WrittenPositionFault) : Type 0 where
  pub number : ℕ
  pub word : List ℕ
  pub has_word : HasWord text number word
  pub is_fault : IsWordFault number word fault

-- The text has this fault. That of no heaps is `0`, which is no fault.
pub data IsPositionFault (text : List ℕ) : WrittenPositionFault → Type 0 where
  HasNoByte : text ≡ [] → IsPositionFault text Empty
  InWord : {fault : WrittenPositionFault} → text ≢ codes "0" → HasWordFault text fault
      → IsPositionFault text fault
  HasMany : {sizes : ℕ} → sizes ≡ length (words_of text) → 64 < sizes
      → IsPositionFault text (Many sizes)

-- the word is the numeral of a size
abbrev pub IsGoodWord : List ℕ → Type 0
IsGoodWord word = IsNumeral word × (number_of word ≤ 1000000000000000000)

-- all words are good, and they are so many
abbrev pub HasGoodWords : List ℕ → ℕ → Type 0
HasGoodWords text count = All IsGoodWord (words_of text) × (count ≡ length (words_of text))

-- the text is one of a position: of at most 64 sizes, each of 1 to 10^18
pub record IsPositionWord (text : List ℕ) : Type 0 where
  pub sizes : List ℕ
  pub spelled : IsPositionText text sizes
  pub few : length sizes ≤ 64
  pub fit : All IsSize sizes
