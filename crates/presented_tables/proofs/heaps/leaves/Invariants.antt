use Rattle.misere_theory.specs.Games.{IsPosition}
use Rattle.heap_options.specs.Exact.{heaps_of}
use Rattle.heap_options.specs.Options.{options_of}
use Rattle.presented_tables.specs.Tested.{HasWord}
use Rattle.presented_tables.proofs.Walked.{IsWalked}
use Rattle.presented_tables.proofs.heaps.leaves.Given as goal

abbrev pub invariant-loop-left : goal.invariant-loop-left
invariant-loop-left g l =
    IsWalked (λ left. IsPosition (HasWord l.p) (heaps_of left)) l.yielded l.left-iterator
    (options_of l.p.code l.n)
