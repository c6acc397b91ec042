-- The spelling of a code: d0, a point, and the digits d1 to dk, as Plambeck and Siegel, and Siegel,
-- write it. That k is 1 to 16, that the last digit isn't 0, and the refusal of a longer code are
-- this project's own.
use Rattle.std.specs.Prelude.{◌≡◌, ◌≢◌, ℕ, ◌+◌, ◌-◌, ◌≤◌, ◌<◌, nat_lt, if◌then◌else◌, List, [], ◌∷◌, length, slice_index, All, map}
use Rattle.misere_theory.specs.Games.{IsCode, IsFirstDigit}

-- a digit is one character: 0 to 9, and a to f for 10 to 15
abbrev pub digit_byte : ℕ → ℕ
digit_byte d = if nat_lt d 10 then 48 + d else 87 + d

abbrev pub code_text : List ℕ → List ℕ
code_text [] = []
code_text (d ∷ ds) = digit_byte d ∷ 46 ∷ map digit_byte ds

-- the bytes spell the code of these digits
pub record IsCodeText (bytes digits : List ℕ) : Type 0 where
  pub code : IsCode digits
  pub spelled : bytes ≡ code_text digits

-- as a code, but with 17 or more digits behind the point: d0 is 0, 4, 8 or 12, the others 0 to 15,
-- the last not 0
abbrev pub IsLongCode : List ℕ → Type 0
IsLongCode [] = ⊥
IsLongCode (d ∷ ds) = IsFirstDigit d × (17 ≤ length ds) × All (λ x. x < 16) ds
    × (slice_index ds (length ds - 1) ≢ 0)

-- the bytes would spell a code, if codes could be longer
pub record IsLongCodeText (bytes : List ℕ) : Type 0 where
  pub digits : List ℕ
  pub long : IsLongCode digits
  pub spelled : bytes ≡ code_text digits

-- the bytes spell neither
pub record IsNoCodeText (bytes : List ℕ) : Type 0 where
  pub no_code : (digits : List ℕ) → IsCodeText bytes digits → ⊥
  pub not_long : IsLongCodeText bytes → ⊥
