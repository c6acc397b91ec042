-- Positions: heaps, each of 1 to 10^18. The upper limit is this project's own; the theory has none.
use Rattle.std.specs.Prelude.{ℕ, ◌≤◌}

-- how large a heap is
abbrev pub IsSize : ℕ → Type 0
IsSize n = (1 ≤ n) × (n ≤ 1000000000000000000)
