-- The refusals of texts of whole games and of presentations. When one is true of bytes is said where they are checked. This
-- project's own.
use Rattle.std.specs.Prelude.{ℕ, List}

-- Why bytes are refused. With Outcome stand the code and a position, with Part a heap.
pub data Why : Type 0 where
  Text : Why
  Law : Why
  Outcome : List ℕ → List ℕ → Why
  Limit : Why
  Memory : Why
  Part : ℕ → Why
  Undecided : Why
  Finite : Why
