use Rattle.std.proofs.Common.{false}
use Rattle.heap_options.specs.Exact.{heaps_of}
use Rattle.heap_options.specs.Options.{options_of}
use Rattle.presented_tables.proofs.Walked.{IsWalked}
use Rattle.class_tables.proofs.Said.{ClassSays}
use Rattle.class_tables.proofs.beside.says_option.Given as goal

abbrev pub invariant-loop-left : goal.invariant-loop-left
invariant-loop-left g l =
    IsWalked (λ left. ClassSays l.p l.folds l.q (heaps_of left) false) l.yielded l.left-iterator
    (options_of l.p.code l.n)
