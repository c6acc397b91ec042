-- What is wrong with a text that is no code. This project's own.
use Rattle.std.specs.Prelude.{◌≡◌, ◌≤◌, ◌<◌, ◌+◌, ◌-◌, ◌==◌, ◌&&◌, ◌||◌, nat_le, ℕ, Bool, false, List, [], length, slice_index}
use Rattle.octal_code.specs.Spelling.{IsFirstByte}
use Rattle.octal_code.specs.Text.{IsCodeText}
use Rattle.verdict_commands.specs.declared.faults.WrittenCodeFault.{WrittenCodeFault}
use Rattle.verdict_commands.specs.declared.faults.WrittenCodeFault.TheVariants.{Empty, Byte, First, Point, NoDigit, SecondPoint, LastZero, Long}

-- a byte that codes have: a point, or a digit 0 to 9 or a to f
abbrev pub is_code_byte : ℕ → Bool
is_code_byte b = b == 46 || (nat_le 48 b && nat_le b 57) || (nat_le 97 b && nat_le b 102)

-- at this place, counted from 1, the text has this byte
abbrev pub HasByteAt : (text : List ℕ) (place byte : ℕ) → Type 0
HasByteAt text place byte =
    (1 ≤ place) × (place ≤ length text) × (slice_index text (place - 1) ≡ byte)

-- the text has this fault
abbrev pub IsCodeFault : List ℕ → WrittenCodeFault → Type 0
IsCodeFault text Empty = text ≡ []
IsCodeFault text (Byte place byte) = HasByteAt text place byte × (is_code_byte byte ≡ false)
IsCodeFault text First = (byte : ℕ) × HasByteAt text 1 byte × (IsFirstByte byte → ⊥)
IsCodeFault text Point = HasByteAt text 2 46 → ⊥
IsCodeFault text NoDigit = length text ≤ 2
IsCodeFault text (SecondPoint place) = HasByteAt text place 46 × (2 < place)
IsCodeFault text LastZero = HasByteAt text (length text) 48
IsCodeFault text (Long digits) = (length text ≡ digits + 2) × (16 < digits)

-- the text is one of a code
abbrev pub IsCodeWord : List ℕ → Type 0
IsCodeWord text = (digits : List ℕ) × IsCodeText text digits

-- a first digit and a point, and 1 to 16 bytes behind them
pub record HasFront (text : List ℕ) : Type 0 where
  pub some : 3 ≤ length text
  pub few : length text ≤ 18
  pub first : IsFirstByte (slice_index text 0)
  pub point : slice_index text 1 ≡ 46
