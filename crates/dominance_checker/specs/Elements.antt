-- When heaps make all elements of U. This project's own.
use Rattle.std.specs.Prelude.{◌≡◌, ℕ, ◌+◌, ◌≤◌, List}
use Rattle.misere_theory.specs.Games.{IsHeap}
use Rattle.dominance_checker.specs.declared.rank.Rank.{Rank}
use Rattle.dominance_checker.specs.declared.shape.Shape.{Shape}
use Rattle.dominance_checker.specs.Ranks.{label_by}

-- The heap n has the lead m, and one more of weight.
pub record IsTight (s : Shape) (ranks : List Rank) (n m : ℕ) : Type 0 where
  pub heap : IsHeap n
  pub lead : (label_by s ranks n).lead ≡ m
  pub weight : (label_by s ranks n).weight ≡ m + 1

-- Some heap is so.
pub record HasTight (s : Shape) (ranks : List Rank) (m : ℕ) : Type 0 where
  pub at : ℕ
  pub tight : IsTight s ranks at m

-- Some heap from the start on is so.
pub record HasLasting (s : Shape) (ranks : List Rank) (m : ℕ) : Type 0 where
  pub at : ℕ
  pub from : s.start ≤ at
  pub tight : IsTight s ranks at m
