use Rattle.std.proofs.Common.{◌≡◌, ◌++◌, [], slice_index, slice_index_or}
use Rattle.heap_options.specs.Options.{options_of}
use Rattle.outcome_search.specs.Reached.{AddsMoves}
use Rattle.outcome_search.proofs.reach.Reached.add_moves_of.Given as goal

abbrev pub invariant-loop-left : goal.invariant-loop-left
invariant-loop-left g l =
    (l.yielded ++ l.left-iterator
    ≡ options_of l.code (slice_index (slice_index_or l.fn.self l.number []) l.place))
    × AddsMoves l.code l.number l.fn.self l.self
