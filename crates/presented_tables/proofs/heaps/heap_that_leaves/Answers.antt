use Rattle.std.proofs.Common.{ℕ, List}
use Rattle.misere_theory.specs.Games.{HeapOption, IsPosition}
use Rattle.presented_tables.specs.Tested.{HasWord}
use Rattle.presented_tables.proofs.Below.{below}
use Rattle.presented_tables.proofs.heaps.heap_that_leaves.Goals as goal

pub loop-n-preserved : goal.loop-n-preserved
loop-n-preserved g c =
    below (λ m. HasWord c.args.p.now m → (H : List ℕ) → HeapOption c.args.p.now.code m H
    → IsPosition (HasWord c.args.p.now) H) c.loop-n.n c.loop-n.invariant
    (c.is_left.ensures.stays c.if-is_left.false)
