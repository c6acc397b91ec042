-- The text of a word in commuting letters: its letters in the order of the alphabet, each with its exponent if
-- that is above 1, and 1 for the empty word. As the literature prints them, in one line.
use Rattle.std.specs.Prelude.{◌≡◌, ℕ, zero, suc, ◌+◌, ◌≤◌, List, [], ◌∷◌, ◌++◌, length}
use Rattle.std.specs.Fmt.{decimal}
use Rattle.std.specs.List.{AllByRecursion}
use Rattle.presentations.specs.declared.TheConstants.{LETTERS}
use Rattle.relations.specs.Printed.{or_one}
use Rattle.presented_text.specs.declared.TheConstants.{LARGEST_POWER}

-- a power of a letter, 0 for a to 25 for z
abbrev pub power_text : ℕ → ℕ → List ℕ
power_text letter zero = []
power_text letter (suc zero) = (97 + letter) ∷ []
power_text letter (suc (suc k)) = (97 + letter) ∷ 94 ∷ decimal (suc (suc k))

-- the powers of a letter and those behind it
abbrev pub powers_text : ℕ → List ℕ → List ℕ
powers_text letter [] = []
powers_text letter (x ∷ word) = power_text letter x ++ powers_text (suc letter) word

abbrev pub spelled : List ℕ → List ℕ
spelled word = or_one (powers_text 0 word)

-- An exponent for each letter, none above LARGEST_POWER.
pub record IsSpellable (word : List ℕ) : Type 0 where
  pub long : length word ≡ LETTERS
  pub few : AllByRecursion (λ x. x ≤ LARGEST_POWER) word
