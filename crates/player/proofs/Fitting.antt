-- When all heaps of a position count.
use Rattle.std.proofs.Common.{◌≡◌, ℕ, ◌<◌, ◌≤◌, List, arith}
use Rattle.std.specs.List.{All}
use Rattle.std.proofs.lemmas.List.Elements.{All-from_recursion, recursion_from_All}
use Rattle.misere_theory.specs.Games.{IsPosition}
use Rattle.misere_theory.specs.Kinds.{IsHeapIn}
use Rattle.positions.specs.Positions.{IsSize}

-- where all heaps count, those of a position do
pub all_fit : (M : ℕ) (X : List ℕ) → All IsSize X → M ≡ 0 → IsPosition (IsHeapIn M) X
all_fit M X sizes z =
    recursion_from_All (IsHeapIn M) X (λ k d l. ((sizes k d l).0, λ some. absurd (omega arith)))

-- where those up to M do, it is those of a position that has no larger one
pub small_fit : (M : ℕ) (X : List ℕ) → All IsSize X → All (λ n. n ≤ M) X → IsPosition (IsHeapIn M) X
small_fit M X sizes small =
    recursion_from_All (IsHeapIn M) X (λ k d l. ((sizes k d l).0, λ some. small k d l))

pub fit_small : (M : ℕ) (X : List ℕ) → 0 < M → IsPosition (IsHeapIn M) X → All (λ n. n ≤ M) X
fit_small M X some p k d l = (All-from_recursion (IsHeapIn M) X p k d l).1 some
