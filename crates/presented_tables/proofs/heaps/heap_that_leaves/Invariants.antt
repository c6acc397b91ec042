use Rattle.std.proofs.Common.{ℕ, ◌<◌, List}
use Rattle.misere_theory.specs.Games.{HeapOption, IsPosition}
use Rattle.presented_tables.specs.Tested.{HasWord}
use Rattle.presented_tables.proofs.heaps.heap_that_leaves.Given as goal

abbrev pub invariant-loop-n : goal.invariant-loop-n
invariant-loop-n g l = (m : ℕ) → m < l.n → HasWord l.p m → (H : List ℕ) → HeapOption l.p.code m H
    → IsPosition (HasWord l.p) H
