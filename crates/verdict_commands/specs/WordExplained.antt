-- The lines that `explain --code` and `explain --position` print. This project's own.
use Rattle.std.specs.Prelude.{◌≡◌, ◌==◌, ◌&&◌, nat_lt, ℕ, Bool, true, false, List, ◌++◌, if◌then◌else◌, codes, decimal, encode_utf8}
use Rattle.verdict_commands.specs.Codes.{IsCodeFault, IsCodeWord}
use Rattle.verdict_commands.specs.Sizes.{IsPositionFault, IsPositionWord}
use Rattle.verdict_commands.specs.declared.faults.WrittenCodeFault.{WrittenCodeFault}
use Rattle.verdict_commands.specs.declared.faults.WrittenCodeFault.TheVariants as code
use Rattle.verdict_commands.specs.declared.faults.WrittenPositionFault.{WrittenPositionFault}
use Rattle.verdict_commands.specs.declared.faults.WrittenPositionFault.TheVariants as position

-- ---- bytes

abbrev pub printed_byte : ℕ → List ℕ
printed_byte byte = codes "\"" ++ (encode_utf8 byte ++ codes "\"")

abbrev pub numbered_byte : ℕ → List ℕ
numbered_byte byte = codes "the byte " ++ decimal byte

-- a byte by its name, in quotes, or by its number
abbrev pub byte_words : ℕ → List ℕ
byte_words byte =
    if byte == 13 then codes "a carriage return"
    else if byte == 10 then codes "a line end"
    else if byte == 9 then codes "a tab"
    else if byte == 32 then codes "a space"
    else if nat_lt 32 byte && nat_lt byte 127 then printed_byte byte
    else numbered_byte byte

-- ---- codes

abbrev pub code_byte_line : (place byte : ℕ) → List ℕ
code_byte_line place byte =
    codes "byte " ++ (decimal place ++ (codes ": " ++ (byte_words byte ++ codes ", which no code has\n")))

abbrev pub second_point_line : ℕ → List ℕ
second_point_line place = codes "byte " ++ (decimal place ++ codes ": a second point\n")

abbrev pub long_line : ℕ → List ℕ
long_line digits =
    codes "digits after the point: " ++ (decimal digits ++ codes ", not 1 to 16\n")

abbrev pub code_fault_line : WrittenCodeFault → List ℕ
code_fault_line code.Empty = codes "no byte\n"
code_fault_line (code.Byte place byte) = code_byte_line place byte
code_fault_line code.First = codes "byte 1: not 0, 4, 8 or c\n"
code_fault_line code.Point = codes "byte 2: not a point\n"
code_fault_line code.NoDigit = codes "no digit after the point\n"
code_fault_line (code.SecondPoint place) = second_point_line place
code_fault_line code.LastZero = codes "the last digit is 0\n"
code_fault_line (code.Long digits) = long_line digits

-- The text is a code, which the line says; or it is none, and the line says what is wrong with it.
abbrev pub ExplainsCode : (code text : List ℕ) → Bool → Type 0
ExplainsCode code text true = IsCodeWord code × (text ≡ codes "a code\n")
ExplainsCode code text false =
    (IsCodeWord code → ⊥)
    × ((fault : WrittenCodeFault) × IsCodeFault code fault × (text ≡ code_fault_line fault))

-- ---- positions

abbrev pub no_size_line : ℕ → List ℕ
no_size_line number =
    codes "size " ++ (decimal number ++ codes ": no digit, since a space begins or ends the text, or two stand together\n")

abbrev pub size_byte_line : (number byte : ℕ) → List ℕ
size_byte_line number byte =
    codes "size " ++ (decimal number ++ (codes ": " ++ (byte_words byte ++ codes ", which no size has\n")))

abbrev pub zero_line : ℕ → List ℕ
zero_line number = codes "size " ++ (decimal number ++ codes ": 0, which stands alone, for no heap\n")

abbrev pub leading_line : ℕ → List ℕ
leading_line number = codes "size " ++ (decimal number ++ codes ": it begins with 0\n")

abbrev pub large_line : ℕ → List ℕ
large_line number = codes "size " ++ (decimal number ++ codes ": above 1000000000000000000\n")

abbrev pub many_line : ℕ → List ℕ
many_line sizes = codes "sizes: " ++ (decimal sizes ++ codes ", not 1 to 64\n")

abbrev pub position_fault_line : WrittenPositionFault → List ℕ
position_fault_line position.Empty = codes "no byte\n"
position_fault_line (position.NoSize number) = no_size_line number
position_fault_line (position.Byte number byte) = size_byte_line number byte
position_fault_line (position.Zero number) = zero_line number
position_fault_line (position.Leading number) = leading_line number
position_fault_line (position.Large number) = large_line number
position_fault_line (position.Many sizes) = many_line sizes

-- The text is a position, which the line says; or it is none, and the line says what is wrong.
abbrev pub ExplainsPosition : (position text : List ℕ) → Bool → Type 0
ExplainsPosition position text true = IsPositionWord position × (text ≡ codes "a position\n")
ExplainsPosition position text false =
    (IsPositionWord position → ⊥)
    × ((fault : WrittenPositionFault) × IsPositionFault position fault
    × (text ≡ position_fault_line fault))
