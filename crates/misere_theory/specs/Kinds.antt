-- Which heaps of a code's game count. A kind is a number: 0 stands for the whole game, and M above
-- 0 for the part of it whose heaps are at most M. Partial quotients: Plambeck and Siegel; the kinds
-- are this project's own.
use Rattle.std.specs.Prelude.{◌≡◌, ℕ, ◌-◌, ◌≤◌, ◌<◌, ◌==◌, if◌then◌else◌, List}
use Rattle.misere_theory.specs.Quotients.{Claim}
use Rattle.misere_theory.specs.Pairs.{IsPeriodic, heap_bound}

-- The sizes from 1 on count, in a part those up to M alone.
abbrev pub IsHeapIn : ℕ → ℕ → Type 0
IsHeapIn M n = (1 ≤ n) × (0 < M → n ≤ M)

-- The kind that start and period tell: without a period, which is then 0, the heaps below start
-- count.
abbrev pub kind_by : ℕ → ℕ → ℕ
kind_by start period = if period == 0 then start - 1 else 0

-- In the whole game phi has the period from start on. Of a part nothing is said.
abbrev pub IsPeriodicIn : ℕ → List ℕ → Claim → ℕ → ℕ → ℕ → Type 0
IsPeriodicIn M code c k start period = M ≡ 0 → IsPeriodic code c k start period

-- B: each heap that counts has the pair of one of the heaps 1 to B. In a part each shows itself.
abbrev pub bound_in : ℕ → List ℕ → ℕ → ℕ → ℕ → ℕ
bound_in M code k start period = if M == 0 then heap_bound code k start period else M
