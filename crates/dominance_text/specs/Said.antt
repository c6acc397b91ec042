-- What a text of a whole game with a ruling heap says, and the ranges of its numbers. This project's own.
use Rattle.std.specs.Prelude.{◌≡◌, ℕ, ◌+◌, ◌≤◌, List, length}
use Rattle.std.specs.List.{AllByRecursion}
use Rattle.misere_theory.specs.Games.{IsCode}
use Rattle.dominance_text.specs.declared.TheConstants.{MOST_LABELS, LARGEST_WEIGHT}

-- The digits of the code; from which heap on the numbers repeat, after how many heaps, and by how much
-- weights and leads rise each time; and for each of the heaps 1, 2, .. whether it is odd, which is 1 or 0,
-- its weight, and its lead, which is 0 if it never rules.
pub record DominanceSaid : Type 0 where
  pub code : List ℕ
  pub start : ℕ
  pub period : ℕ
  pub rise : ℕ
  pub odd : List ℕ
  pub weights : List ℕ
  pub leads : List ℕ

-- A number for each heap up to the end of the first period, each at most so large.
pub record AreLabels (start period largest : ℕ) (xs : List ℕ) : Type 0 where
  pub count : length xs + 1 ≡ start + period
  pub within : AllByRecursion (λ x. x ≤ largest) xs

-- Each line has its count of words, and each number is in its range.
pub record IsInRanges (c : DominanceSaid) : Type 0 where
  pub code : IsCode c.code
  pub start : 1 ≤ c.start
  pub period : 1 ≤ c.period
  pub heaps : c.start + c.period ≤ MOST_LABELS + 1
  pub rise : (1 ≤ c.rise) × (c.rise ≤ LARGEST_WEIGHT)
  pub odd : AreLabels c.start c.period 1 c.odd
  pub weights : AreLabels c.start c.period LARGEST_WEIGHT c.weights
  pub leads : AreLabels c.start c.period LARGEST_WEIGHT c.leads
