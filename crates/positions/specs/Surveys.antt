-- What a reader keeps of the sizes of a text, before it takes memory.
use Rattle.std.specs.Prelude.{◌≡◌, ℕ, ◌≤◌, List, length, map, min, take, All, nat_lt}
use Rattle.std.specs.List.{list_any}
use Rattle.positions.specs.Text.{number_of, IsNumeral}
use Rattle.positions.specs.declared.survey.Survey.{Survey}

-- a size, but for those above 10^18 the next number
abbrev pub capped : ℕ → ℕ
capped n = min n 1000000000000000001

-- how many sizes there are, whether one is too large, and, where they are no more than 64, the
-- sizes
pub record IsSurvey (sizes : List ℕ) (survey : Survey) : Type 0 where
  pub room : length survey.sizes ≡ 64
  pub count : survey.count ≡ length sizes
  pub large : survey.large ≡ list_any (λ n. nat_lt 1000000000000000000 n) sizes
  pub kept : length sizes ≤ 64 → take (length sizes) survey.sizes ≡ sizes

-- the words are numerals, and these are their numbers
pub record IsSurveyOf (words : List (List ℕ)) (survey : Survey) : Type 0 where
  pub numerals : All IsNumeral words
  pub numbers : IsSurvey (map (λ word. capped (number_of word)) words) survey
