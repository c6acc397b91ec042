use Rattle.heap_options.specs.Options.{options_of}
use Rattle.presented_tables.proofs.Reaching.{AreSoFar}
use Rattle.presented_tables.proofs.reached.reached.Given as goal

abbrev pub invariant-loop-left : goal.invariant-loop-left
invariant-loop-left g l =
    AreSoFar l.p l.e l.n (options_of l.p.code l.n) l.distinct l.yielded l.left-iterator
