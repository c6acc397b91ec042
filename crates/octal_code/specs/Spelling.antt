-- What the reader tests, byte by byte.
use Rattle.std.specs.Prelude.{◌≡◌, ◌≢◌, ℕ, ◌-◌, ◌≤◌, ◌<◌, ◌⊎◌, nat_lt, if◌then◌else◌, List, ◌∷◌, length, slice_index, All, map, drop}

-- 0 to 9 and a to f
abbrev pub IsDigitByte : ℕ → Type 0
IsDigitByte b = ((48 ≤ b) × (b < 58)) ⊎ ((97 ≤ b) × (b < 103))

-- 0, 4, 8 and c
abbrev pub IsFirstByte : ℕ → Type 0
IsFirstByte b = (b ≡ 48) ⊎ (b ≡ 52) ⊎ (b ≡ 56) ⊎ (b ≡ 99)

-- 0, 4, 8 or c, a point, one digit 0 to f or more, the last not 0
pub record IsSpelling (bytes : List ℕ) : Type 0 where
  pub some : 3 ≤ length bytes
  pub first : IsFirstByte (slice_index bytes 0)
  pub point : slice_index bytes 1 ≡ 46
  pub digits : All IsDigitByte (drop 2 bytes)
  pub last : slice_index bytes (length bytes - 1) ≢ 48

-- the digit that a byte spells
abbrev pub digit_of : ℕ → ℕ
digit_of b = if nat_lt b 58 then b - 48 else b - 87

-- the digits of such bytes
abbrev pub digits_in : List ℕ → List ℕ
digits_in bytes = digit_of (slice_index bytes 0) ∷ map digit_of (drop 2 bytes)
